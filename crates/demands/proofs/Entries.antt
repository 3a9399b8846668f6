-- Every entry keeps its promise: its own theorem says so.
use seplogic.Ra.Ura.{Ura}
use base.Logic.{SProp, ent, sep, id⊢, via, mono_r, fst∗, snd∗}
use types.Logic.{sem}
use contract.Monad.{fact, fact_i, fact_use, fact_hold, conj, conj_i, top}
use contract.BorrowLft.{◌⊑◌}
use denote.Ask.Run.{routine_mono}
use denote.Triple.Clauses.{Ended, lasts}
use denote.Triple.Weaken.{weaken_under}
use Rattle.engine.proofs.start.start.Met as start
use Rattle.engine.proofs.start.start_in.Met as start_in
use Rattle.engine.proofs.events.load.Met as events-load
use Rattle.engine.proofs.events.store.Met as events-store
use Rattle.engine.proofs.events.drop.Met as events-drop
use Rattle.engine.proofs.events.ask.Met as events-ask
use Rattle.engine.proofs.events.order.Met as events-order
use Rattle.engine.proofs.events.deliver.Met as events-deliver
use Rattle.engine.proofs.events.copy.Met as events-copy
use Rattle.engine.proofs.events.rejoin.Met as events-rejoin
use Rattle.engine.proofs.events.step.Met as events-step
use Rattle.engine.proofs.run.run.Met as run
use Rattle.engine.proofs.looks.counts.Met as looks-counts
use Rattle.engine.proofs.looks.message.Met as looks-message
use Rattle.engine.proofs.looks.request.Met as looks-request
use Rattle.engine.proofs.looks.cell.Met as looks-cell
use Rattle.engine.proofs.looks.home.Met as looks-home
use Rattle.journal.proofs.reading.read.Met as reading-read
use Rattle.journal.proofs.reading.place_after.Met as reading-place-after
use Rattle.journal.proofs.reader.Reader.new.Met as reader_new
use Rattle.journal.proofs.reader.Reader.next.Met as reader_next
use Rattle.journal.proofs.reader.Reader.after.Met as reader_after
use Rattle.journal.proofs.reader.read_on.Met as reader_read_on
use Rattle.journal.proofs.writing.write.Met as writing-write
use Rattle.journal.proofs.lines.put_line.Met as lines-put-line
use Rattle.rules.proofs.U8FromEdition.from.Met as edition-number
use Rattle.rules.proofs.EditionTryFromU8.try_from.Met as number-edition
use Rattle.journal.proofs.tags.U8FromTag.from.Met as tag-byte
use Rattle.journal.proofs.tags.TagTryFromU8.try_from.Met as byte-tag
use Rattle.journal.proofs.numbers.refusal_no.Met as numbers-refusal-no
use Rattle.journal.proofs.numbers.refusal_of.Met as numbers-refusal-of
use Rattle.journal.proofs.numbers.damage_no.Met as numbers-damage-no
use Rattle.journal.proofs.numbers.written_no.Met as numbers-written-no
use Rattle.firmware.proofs.chassis.coherence_start.Met as coherence-start
use Rattle.firmware.proofs.chassis.coherence_load.Met as coherence-load
use Rattle.firmware.proofs.chassis.coherence_store.Met as coherence-store
use Rattle.firmware.proofs.chassis.coherence_drop.Met as coherence-drop
use Rattle.firmware.proofs.chassis.coherence_ask.Met as coherence-ask
use Rattle.firmware.proofs.chassis.coherence_order.Met as coherence-order
use Rattle.firmware.proofs.chassis.coherence_deliver.Met as coherence-deliver
use Rattle.firmware.proofs.chassis.coherence_copy.Met as coherence-copy
use Rattle.firmware.proofs.chassis.coherence_rejoin.Met as coherence-rejoin
use Rattle.firmware.proofs.journals.coherence_read.Met as coherence-read
use Rattle.firmware.proofs.journals.coherence_write.Met as coherence-write
use Rattle.firmware.proofs.journals.coherence_run.Met as coherence-run
use Rattle.firmware.proofs.looks.coherence_counts.Met as coherence-counts
use Rattle.firmware.proofs.looks.coherence_message.Met as coherence-message
use Rattle.firmware.proofs.looks.coherence_request.Met as coherence-request
use Rattle.firmware.proofs.looks.coherence_cell.Met as coherence-cell
use Rattle.firmware.proofs.looks.coherence_home.Met as coherence-home
use Rattle.firmware.proofs.version.coherence_version.Met as coherence-version
use Rattle.bench.specs.contracts.replay as bench-replay
use Rattle.bench.proofs.replay.Met as bench-replay-met
use Rattle.bench.proofs.replay.Symbol as bench-replay-code
use Rattle.bench.specs.Replaying.{Replays, Reads as ReadsFrom, Writes as WritesTo}
use Rattle.rules.proofs.table.loads.Met as table-loads
use Rattle.rules.proofs.table.stores.Met as table-stores
use Rattle.rules.proofs.table.asks_gets.Met as table-asks-gets
use Rattle.rules.proofs.table.asks_getx.Met as table-asks-getx
use Rattle.rules.proofs.table.asks_putx.Met as table-asks-putx
use Rattle.rules.proofs.table.asked.Met as table-asked
use Rattle.rules.proofs.table.sees_gets.Met as table-sees-gets
use Rattle.rules.proofs.table.sees_getx.Met as table-sees-getx
use Rattle.rules.proofs.table.drops.Met as table-drops
use Rattle.rules.proofs.table.waits.Met as table-waits
use Rattle.rules.proofs.table.is_reader.Met as table-is-reader
use Rattle.rules.proofs.table.can_give.Met as table-can-give
use Rattle.rules.proofs.table.comes_from.Met as table-comes-from
use Rattle.rules.proofs.table.upgrades.Met as table-upgrades
use Rattle.rules.proofs.table.put_stands.Met as table-put-stands
use Rattle.rules.proofs.table.leaves_sharers.Met as table-leaves-sharers
use Rattle.rules.proofs.table.granted_to.Met as table-granted-to
use Rattle.rules.proofs.table.filled_to.Met as table-filled-to
use Rattle.demands.specs.Entry.{Streams, Lends, Promise, promised, KeepsOver}
use Rattle.demands.specs.Demands.{EveryEntry}

abbrev ended : Streams → Ended
ended s = bench-replay.ended s.Reader s.Writer s.reader s.read_by s.writer s.written_by

abbrev lends : (s : Streams) → Lends (ended s)
lends s κs = (κs.1.1.1.0 ⊑ s.Reader.lives) × (κs.1.1.1.1.0 ⊑ s.Writer.lives)

abbrev says : (s : Streams) → Promise (ended s)
says s κs a r end = (Replays end.1.1.0.now r) × (ReadsFrom (s.reader.remaining a.0.now) (s.reader.remaining end.0.now) end.1.1.0.now r) × (WritesTo (s.writer.contents a.1.0.now) (s.writer.contents end.1.0.now) end.1.1.0.now r)

beside : {M : Type 1} (𝓤 : Ura M) (φ : Type 0) (P Q : SProp 𝓤) → φ → ent 𝓤 P Q → ent 𝓤 P (sep 𝓤 (fact 𝓤 φ) Q)
beside 𝓤 φ P Q x h = via 𝓤 (conj 𝓤 (fact 𝓤 φ) Q) (conj_i 𝓤 (fact 𝓤 φ) Q (fact_i 𝓤 φ P x) h) (fact_hold 𝓤 φ Q)

together : {M : Type 1} (𝓤 : Ura M) (φ ψ χ : Type 0) → ent 𝓤 (sep 𝓤 (fact 𝓤 φ) (sep 𝓤 (fact 𝓤 ψ) (fact 𝓤 χ))) (fact 𝓤 (φ × ψ × χ))
together 𝓤 φ ψ χ =
    let F : Type 0 → SProp 𝓤 = fact 𝓤 in
    fact_use 𝓤 φ (fst∗ 𝓤 (F φ) (sep 𝓤 (F ψ) (F χ))) (λ x.
    fact_use 𝓤 ψ (via 𝓤 (sep 𝓤 (F ψ) (F χ)) (snd∗ 𝓤 (F φ) (sep 𝓤 (F ψ) (F χ))) (fst∗ 𝓤 (F ψ) (F χ))) (λ y.
    fact_use 𝓤 χ (via 𝓤 (sep 𝓤 (F ψ) (F χ)) (snd∗ 𝓤 (F φ) (sep 𝓤 (F ψ) (F χ))) (snd∗ 𝓤 (F ψ) (F χ))) (λ z.
    fact_i 𝓤 (φ × ψ × χ) (sep 𝓤 (F φ) (sep 𝓤 (F ψ) (F χ))) (x, y, z))))

-- its own theorem says the three facts one by one
replay : KeepsOver ended bench-replay-code.name bench-replay-code.code lends says
replay M 𝓤 𝓛 𝓜 𝓡 wired s R W r w =
    weaken_under 𝓛 (ended s) (bench-replay.clauses s.Reader s.Writer s.reader s.read_by s.writer s.written_by 𝓛 𝓜.mem 𝓡.returns)
    (promised 𝓤 (ended s) (lends s) (says s)) (λ κs a g. tt) (λ κs a g. lends s κs) (λ κs a g. id⊢ 𝓤 _)
    (λ κs a g l. beside 𝓤 _ _ _ l.0 (beside 𝓤 _ _ _ l.1 (top 𝓤 _)))
    (λ κs a g l res ws. mono_r 𝓤 (sem 𝓛 (lasts (ended s) κs a ws)) (together 𝓤 _ _ _))
    _ (routine_mono 𝓤 𝓛.H 𝓜 𝓡 _)
    (bench-replay-met.met 𝓤 𝓛 𝓜 𝓡 wired s.Reader s.Writer R W s.reader s.read_by s.writer s.written_by r w)

pub every-entry : EveryEntry
every-entry = record {
  start = λ M. start.met;
  start_in = λ M. start_in.met;
  load = λ M. events-load.met;
  store = λ M. events-store.met;
  drop = λ M. events-drop.met;
  ask = λ M. events-ask.met;
  order = λ M. events-order.met;
  deliver = λ M. events-deliver.met;
  copy = λ M. events-copy.met;
  rejoin = λ M. events-rejoin.met;
  step = λ M. events-step.met;
  run = λ M. run.met;
  look_counts = λ M. looks-counts.met;
  look_message = λ M. looks-message.met;
  look_request = λ M. looks-request.met;
  look_cell = λ M. looks-cell.met;
  look_home = λ M. looks-home.met;
  read = λ M. reading-read.met;
  next_place = λ M. reading-place-after.met;
  reader_new = λ M. reader_new.met;
  reader_next = λ M. reader_next.met;
  reader_after = λ M. reader_after.met;
  reader_read_on = λ M. reader_read_on.met;
  write = λ M. writing-write.met;
  put_line = λ M. lines-put-line.met;
  refusal_no = λ M. numbers-refusal-no.met;
  refusal_of = λ M. numbers-refusal-of.met;
  damage_no = λ M. numbers-damage-no.met;
  written_no = λ M. numbers-written-no.met;
  edition_no = λ M. edition-number.met;
  edition_by = λ M. number-edition.met;
  byte_of = λ M. tag-byte.met;
  tag_of = λ M. byte-tag.met;
  c_start = λ M. coherence-start.met;
  c_load = λ M. coherence-load.met;
  c_store = λ M. coherence-store.met;
  c_drop = λ M. coherence-drop.met;
  c_ask = λ M. coherence-ask.met;
  c_order = λ M. coherence-order.met;
  c_deliver = λ M. coherence-deliver.met;
  c_copy = λ M. coherence-copy.met;
  c_rejoin = λ M. coherence-rejoin.met;
  c_read = λ M. coherence-read.met;
  c_write = λ M. coherence-write.met;
  c_run = λ M. coherence-run.met;
  c_counts = λ M. coherence-counts.met;
  c_message = λ M. coherence-message.met;
  c_request = λ M. coherence-request.met;
  c_cell = λ M. coherence-cell.met;
  c_home = λ M. coherence-home.met;
  c_version = λ M. coherence-version.met;
  replay = replay;
  loads = λ M. table-loads.met;
  stores = λ M. table-stores.met;
  asks_gets = λ M. table-asks-gets.met;
  asks_getx = λ M. table-asks-getx.met;
  asks_putx = λ M. table-asks-putx.met;
  asked = λ M. table-asked.met;
  sees_gets = λ M. table-sees-gets.met;
  sees_getx = λ M. table-sees-getx.met;
  drops = λ M. table-drops.met;
  waits = λ M. table-waits.met;
  is_reader = λ M. table-is-reader.met;
  can_give = λ M. table-can-give.met;
  comes_from = λ M. table-comes-from.met;
  upgrades = λ M. table-upgrades.met;
  put_stands = λ M. table-put-stands.met;
  leaves_sharers = λ M. table-leaves-sharers.met;
  granted_to = λ M. table-granted-to.met;
  filled_to = λ M. table-filled-to.met;
}
