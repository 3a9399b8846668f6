-- What the customer asked for, in the customer's words and order: a reader begins here.
--
-- `EveryEntry` says what each public function promises: Starts and Answers (engine/specs/Promise), Runs (engine/specs/Running), read_at,
-- Puts and Decodes (journal/specs), looks (engine/specs/Looking), for C Says, StartsByte, Reads, Writes, RunSays and Shows (firmware/specs), and for the bench
-- Replays, and its own Reads and Writes (bench/specs). All else is claimed of whatever keeps these promises. What they say is in the rules
-- (rules/specs), the words of a chassis (words/specs) and the records (journal/specs), each in the paper's words. EventFits and Bytes say of
-- numbers what the kinds u32 and u8 say of the arguments.
use Rattle.std.specs.Prelude.{Result, Err, Ok, ℕ, ◌+◌, ◌/◌, ◌%◌, true, false, cond, List, [], ◌∷◌, ◌++◌, ◌≡◌, ◌≢◌, length}
use Rattle.rules.specs.Tests.{one_of}
use Rattle.rules.specs.Table.{
  leads,
  loads,
  stores,
  asks_gets,
  asks_getx,
  asks_putx,
  asked,
  sees_gets,
  sees_getx,
  drops,
  waits,
  is_reader,
  can_give,
  comes_from,
  upgrades,
  put_stands,
  leaves_sharers,
  granted_to,
  filled_to,
}
use Rattle.rules.specs.Numbers.{edition_no, edition_by}
use Rattle.rules.specs.Chassis.{no_chassis}
use Rattle.rules.specs.Answers.{refusal_no, refusal_of, value_of, FirstHolds, NoneHolds}
use Rattle.rules.specs.Formed.{sizes}
use Rattle.rules.specs.Events.{reasons, EventFits, step, start}
use Rattle.rules.specs.Claims.{OneAnswer}
use Rattle.rules.specs.declared.Edition.{Edition}
use Rattle.rules.specs.Answers.{Answer}
use Rattle.rules.specs.declared.Refusal.{Refusal}
use Rattle.rules.specs.declared.Refusal.TheVariants.{NoSuchSize, IllFormed}
use Rattle.rules.specs.declared.Event.{Event}
use Rattle.rules.specs.declared.Event.TheVariants.{Load, Store, Drop, Ask, Order, Deliver, Copy, Rejoin}
use Rattle.journal.specs.Records.{bytes_of}
use Rattle.journal.specs.Reading.{damage_no, place_after, read_at}
use Rattle.journal.specs.Tags.{byte_of, Decodes}
use Rattle.journal.specs.Writing.{Written, no_room, written_no, fits, Puts, PutsUnique}
use Rattle.journal.specs.Lines.{text_line}
use Rattle.journal.specs.Claims.{ReadsBack, ReadsOnly, OnlyOne, PaperHolds}
use Rattle.journal.specs.declared.Damage.{Damage}
use Rattle.journal.specs.declared.Record.{Record}
use Rattle.journal.specs.declared.tags.Tag.{Tag}
use Rattle.words.specs.Words.{words, view, formed}
use Rattle.words.specs.Claims.{ViewWords, AllWords, FormedSays, StartForms, StepForms}
use Rattle.engine.specs.Promise.{Starts, Answers, StartsUnique, AnswersUnique}
use Rattle.engine.specs.Running.{Runs, RunsUnique, NextFit, RunsEnd, RunsJoin, OverStays}
use Rattle.engine.specs.Calls.{CallsAreCoherent, MarkedCome}
use Rattle.engine.specs.Looking.{Look, counts, message, request, cell, home, look_reasons, shown, looks}
use Rattle.engine.specs.declared.run.Reached.{Reached}
use Rattle.firmware.specs.Halves.{half, Says}
use Rattle.firmware.specs.Fields.{named}
use Rattle.firmware.specs.Journals.{Reads, Writes, RunSays}
use Rattle.firmware.specs.Looks.{Shows}
use Rattle.firmware.specs.Sizes.{header_version}
use Rattle.firmware.specs.Editions.{start_byte, StartsByte}
use Rattle.firmware.specs.Claims.{ByteStarts, FieldsName, StartSaysUnique, EventSaysUnique, ReadsUnique, WritesUnique, RunSaysUnique, ShowsUnique}
use Rattle.bench.specs.Replaying.{Replays, Reads as ReadsFrom, Writes as WritesTo, ReplaysUnique}
use Rattle.engine.specs.contracts.start.start as start-start
use Rattle.engine.proofs.start.start.Symbol as start-start-code
use Rattle.engine.specs.contracts.start.start_in as start_in
use Rattle.engine.proofs.start.start_in.Symbol as start_in-code
use Rattle.engine.specs.contracts.events.load as events-load
use Rattle.engine.proofs.events.load.Symbol as events-load-code
use Rattle.engine.specs.contracts.events.store as events-store
use Rattle.engine.proofs.events.store.Symbol as events-store-code
use Rattle.engine.specs.contracts.events.drop as events-drop
use Rattle.engine.proofs.events.drop.Symbol as events-drop-code
use Rattle.engine.specs.contracts.events.ask as events-ask
use Rattle.engine.proofs.events.ask.Symbol as events-ask-code
use Rattle.engine.specs.contracts.events.order as events-order
use Rattle.engine.proofs.events.order.Symbol as events-order-code
use Rattle.engine.specs.contracts.events.deliver as events-deliver
use Rattle.engine.proofs.events.deliver.Symbol as events-deliver-code
use Rattle.engine.specs.contracts.events.copy as events-copy
use Rattle.engine.proofs.events.copy.Symbol as events-copy-code
use Rattle.engine.specs.contracts.events.rejoin as events-rejoin
use Rattle.engine.proofs.events.rejoin.Symbol as events-rejoin-code
use Rattle.engine.specs.contracts.events.step as events-step
use Rattle.engine.proofs.events.step.Symbol as events-step-code
use Rattle.engine.specs.contracts.run.run as run-run
use Rattle.engine.proofs.run.run.Symbol as run-run-code
use Rattle.engine.specs.contracts.looks.counts as looks-counts
use Rattle.engine.proofs.looks.counts.Symbol as looks-counts-code
use Rattle.engine.specs.contracts.looks.message as looks-message
use Rattle.engine.proofs.looks.message.Symbol as looks-message-code
use Rattle.engine.specs.contracts.looks.request as looks-request
use Rattle.engine.proofs.looks.request.Symbol as looks-request-code
use Rattle.engine.specs.contracts.looks.cell as looks-cell
use Rattle.engine.proofs.looks.cell.Symbol as looks-cell-code
use Rattle.engine.specs.contracts.looks.home as looks-home
use Rattle.engine.proofs.looks.home.Symbol as looks-home-code
use Rattle.journal.specs.contracts.reading.read as reading-read
use Rattle.journal.proofs.reading.read.Symbol as reading-read-code
use Rattle.journal.specs.contracts.reading.place_after as reading-place-after
use Rattle.journal.proofs.reading.place_after.Symbol as reading-place-after-code
use Rattle.journal.specs.contracts.reader.Reader.new as reader_new
use Rattle.journal.proofs.reader.Reader.new.Symbol as reader_new-code
use Rattle.journal.specs.contracts.reader.Reader.next as reader_next
use Rattle.journal.proofs.reader.Reader.next.Symbol as reader_next-code
use Rattle.journal.specs.contracts.reader.Reader.after as reader_after
use Rattle.journal.proofs.reader.Reader.after.Symbol as reader_after-code
use Rattle.journal.specs.contracts.reader.read_on as reader_read_on
use Rattle.journal.proofs.reader.read_on.Symbol as reader_read_on-code
use Rattle.journal.specs.contracts.writing.write as writing-write
use Rattle.journal.proofs.writing.write.Symbol as writing-write-code
use Rattle.journal.specs.contracts.lines.put_line as lines-put-line
use Rattle.journal.proofs.lines.put_line.Symbol as lines-put-line-code
use Rattle.rules.specs.contracts.U8FromEdition.from as edition-number
use Rattle.rules.proofs.U8FromEdition.from.Symbol as edition-number-code
use Rattle.rules.specs.contracts.EditionTryFromU8.try_from as number-edition
use Rattle.rules.proofs.EditionTryFromU8.try_from.Symbol as number-edition-code
use Rattle.journal.specs.contracts.tags.U8FromTag.from as tag-byte
use Rattle.journal.proofs.tags.U8FromTag.from.Symbol as tag-byte-code
use Rattle.journal.specs.contracts.tags.TagTryFromU8.try_from as byte-tag
use Rattle.journal.proofs.tags.TagTryFromU8.try_from.Symbol as byte-tag-code
use Rattle.journal.specs.contracts.numbers.refusal_no as numbers-refusal-no
use Rattle.journal.proofs.numbers.refusal_no.Symbol as numbers-refusal-no-code
use Rattle.journal.specs.contracts.numbers.refusal_of as numbers-refusal-of
use Rattle.journal.proofs.numbers.refusal_of.Symbol as numbers-refusal-of-code
use Rattle.journal.specs.contracts.numbers.damage_no as numbers-damage-no
use Rattle.journal.proofs.numbers.damage_no.Symbol as numbers-damage-no-code
use Rattle.journal.specs.contracts.numbers.written_no as numbers-written-no
use Rattle.journal.proofs.numbers.written_no.Symbol as numbers-written-no-code
use Rattle.firmware.specs.contracts.chassis.coherence_start as coherence-start
use Rattle.firmware.proofs.chassis.coherence_start.Symbol as coherence-start-code
use Rattle.firmware.specs.contracts.chassis.coherence_load as coherence-load
use Rattle.firmware.proofs.chassis.coherence_load.Symbol as coherence-load-code
use Rattle.firmware.specs.contracts.chassis.coherence_store as coherence-store
use Rattle.firmware.proofs.chassis.coherence_store.Symbol as coherence-store-code
use Rattle.firmware.specs.contracts.chassis.coherence_drop as coherence-drop
use Rattle.firmware.proofs.chassis.coherence_drop.Symbol as coherence-drop-code
use Rattle.firmware.specs.contracts.chassis.coherence_ask as coherence-ask
use Rattle.firmware.proofs.chassis.coherence_ask.Symbol as coherence-ask-code
use Rattle.firmware.specs.contracts.chassis.coherence_order as coherence-order
use Rattle.firmware.proofs.chassis.coherence_order.Symbol as coherence-order-code
use Rattle.firmware.specs.contracts.chassis.coherence_deliver as coherence-deliver
use Rattle.firmware.proofs.chassis.coherence_deliver.Symbol as coherence-deliver-code
use Rattle.firmware.specs.contracts.chassis.coherence_copy as coherence-copy
use Rattle.firmware.proofs.chassis.coherence_copy.Symbol as coherence-copy-code
use Rattle.firmware.specs.contracts.chassis.coherence_rejoin as coherence-rejoin
use Rattle.firmware.proofs.chassis.coherence_rejoin.Symbol as coherence-rejoin-code
use Rattle.firmware.specs.contracts.journals.coherence_read as coherence-read
use Rattle.firmware.proofs.journals.coherence_read.Symbol as coherence-read-code
use Rattle.firmware.specs.contracts.journals.coherence_write as coherence-write
use Rattle.firmware.proofs.journals.coherence_write.Symbol as coherence-write-code
use Rattle.firmware.specs.contracts.journals.coherence_run as coherence-run
use Rattle.firmware.proofs.journals.coherence_run.Symbol as coherence-run-code
use Rattle.firmware.specs.contracts.looks.coherence_counts as coherence-counts
use Rattle.firmware.proofs.looks.coherence_counts.Symbol as coherence-counts-code
use Rattle.firmware.specs.contracts.looks.coherence_message as coherence-message
use Rattle.firmware.proofs.looks.coherence_message.Symbol as coherence-message-code
use Rattle.firmware.specs.contracts.looks.coherence_request as coherence-request
use Rattle.firmware.proofs.looks.coherence_request.Symbol as coherence-request-code
use Rattle.firmware.specs.contracts.looks.coherence_cell as coherence-cell
use Rattle.firmware.proofs.looks.coherence_cell.Symbol as coherence-cell-code
use Rattle.firmware.specs.contracts.looks.coherence_home as coherence-home
use Rattle.firmware.proofs.looks.coherence_home.Symbol as coherence-home-code
use Rattle.firmware.specs.contracts.version.coherence_version as coherence-version
use Rattle.firmware.proofs.version.coherence_version.Symbol as coherence-version-code
use Rattle.bench.specs.contracts.replay as bench-replay
use Rattle.bench.proofs.replay.Symbol as bench-replay-code
use Rattle.rules.specs.contracts.table.loads as table-loads
use Rattle.rules.proofs.table.loads.Symbol as table-loads-code
use Rattle.rules.specs.contracts.table.stores as table-stores
use Rattle.rules.proofs.table.stores.Symbol as table-stores-code
use Rattle.rules.specs.contracts.table.asks_gets as table-asks-gets
use Rattle.rules.proofs.table.asks_gets.Symbol as table-asks-gets-code
use Rattle.rules.specs.contracts.table.asks_getx as table-asks-getx
use Rattle.rules.proofs.table.asks_getx.Symbol as table-asks-getx-code
use Rattle.rules.specs.contracts.table.asks_putx as table-asks-putx
use Rattle.rules.proofs.table.asks_putx.Symbol as table-asks-putx-code
use Rattle.rules.specs.contracts.table.asked as table-asked
use Rattle.rules.proofs.table.asked.Symbol as table-asked-code
use Rattle.rules.specs.contracts.table.sees_gets as table-sees-gets
use Rattle.rules.proofs.table.sees_gets.Symbol as table-sees-gets-code
use Rattle.rules.specs.contracts.table.sees_getx as table-sees-getx
use Rattle.rules.proofs.table.sees_getx.Symbol as table-sees-getx-code
use Rattle.rules.specs.contracts.table.drops as table-drops
use Rattle.rules.proofs.table.drops.Symbol as table-drops-code
use Rattle.rules.specs.contracts.table.waits as table-waits
use Rattle.rules.proofs.table.waits.Symbol as table-waits-code
use Rattle.rules.specs.contracts.table.is_reader as table-is-reader
use Rattle.rules.proofs.table.is_reader.Symbol as table-is-reader-code
use Rattle.rules.specs.contracts.table.can_give as table-can-give
use Rattle.rules.proofs.table.can_give.Symbol as table-can-give-code
use Rattle.rules.specs.contracts.table.comes_from as table-comes-from
use Rattle.rules.proofs.table.comes_from.Symbol as table-comes-from-code
use Rattle.rules.specs.contracts.table.upgrades as table-upgrades
use Rattle.rules.proofs.table.upgrades.Symbol as table-upgrades-code
use Rattle.rules.specs.contracts.table.put_stands as table-put-stands
use Rattle.rules.proofs.table.put_stands.Symbol as table-put-stands-code
use Rattle.rules.specs.contracts.table.leaves_sharers as table-leaves-sharers
use Rattle.rules.proofs.table.leaves_sharers.Symbol as table-leaves-sharers-code
use Rattle.rules.specs.contracts.table.granted_to as table-granted-to
use Rattle.rules.proofs.table.granted_to.Symbol as table-granted-to-code
use Rattle.rules.specs.contracts.table.filled_to as table-filled-to
use Rattle.rules.proofs.table.filled_to.Symbol as table-filled-to-code
use contract.BorrowLft.{◌⊑◌}
use Rattle.demands.specs.Entry.{Keeps, KeepsOver}

-- The list of entries. `Keeps f.ended f-code.name f-code.code P`: whatever f is given, it ends, and then P holds (Entry). In P, a.0 is the
-- first argument, a.1.0 the second, a.1.1.0 the third and so on, r or n the result, end.0 the first argument at the end; `now` is what a
-- reference refers to.
pub record EveryEntry : Type 2 where
  -- Start, with the words that it makes, or in words that are lent
  pub start : Keeps start-start.ended start-start-code.name start-start-code.code (λ κs a r end. Starts a.0 a.1.0 a.1.1.0 r.answer r.state)
  pub start_in : Keeps start_in.ended start_in-code.name start_in-code.code (λ κs a r end. Starts a.1.0 a.1.1.0 a.1.1.1.0 r end.0.now)
  -- the events, and any event
  pub load : Keeps events-load.ended events-load-code.name events-load-code.code (λ κs a r end. Answers a.0.now (Load a.1.0 a.1.1.0) r a.0.now)
  pub store : Keeps events-store.ended events-store-code.name events-store-code.code (λ κs a r end. Answers a.0.now (Store a.1.0 a.1.1.0 a.1.1.1.0) r end.0.now)
  pub drop : Keeps events-drop.ended events-drop-code.name events-drop-code.code (λ κs a r end. Answers a.0.now (Drop a.1.0 a.1.1.0) r end.0.now)
  pub ask : Keeps events-ask.ended events-ask-code.name events-ask-code.code (λ κs a r end. Answers a.0.now (Ask a.1.0 a.1.1.0 a.1.1.1.0 a.1.1.1.1.0) r end.0.now)
  pub order : Keeps events-order.ended events-order-code.name events-order-code.code (λ κs a r end. Answers a.0.now Order r end.0.now)
  pub deliver : Keeps events-deliver.ended events-deliver-code.name events-deliver-code.code (λ κs a r end. Answers a.0.now (Deliver a.1.0) r end.0.now)
  pub copy : Keeps events-copy.ended events-copy-code.name events-copy-code.code (λ κs a r end. Answers a.0.now (Copy a.1.0) r end.0.now)
  pub rejoin : Keeps events-rejoin.ended events-rejoin-code.name events-rejoin-code.code (λ κs a r end. Answers a.0.now (Rejoin a.1.0) r end.0.now)
  pub step : Keeps events-step.ended events-step-code.name events-step-code.code (λ κs a r end. Answers a.0.now a.1.0 r end.0.now)
  -- a piece of a run over a journal
  pub run : Keeps run-run.ended run-run-code.name run-run-code.code (λ κs a r end. Runs a.0.now a.1.0.now a.1.1.0 a.1.1.1.0.now r end.0.now end.1.1.1.0.now)
  -- looks, on words that are lent to be read only
  pub look_counts : Keeps looks-counts.ended looks-counts-code.name looks-counts-code.code (λ κs a r end. r ≡ looks a.0.now counts)
  pub look_message : Keeps looks-message.ended looks-message-code.name looks-message-code.code (λ κs a r end. r ≡ looks a.0.now (message a.1.0))
  pub look_request : Keeps looks-request.ended looks-request-code.name looks-request-code.code (λ κs a r end. r ≡ looks a.0.now (request a.1.0))
  pub look_cell : Keeps looks-cell.ended looks-cell-code.name looks-cell-code.code (λ κs a r end. r ≡ looks a.0.now (cell a.1.0 a.1.1.0))
  pub look_home : Keeps looks-home.ended looks-home-code.name looks-home-code.code (λ κs a r end. r ≡ looks a.0.now (home a.1.0))
  -- a record read, and the place to read at next; by a reader too
  pub read : Keeps reading-read.ended reading-read-code.name reading-read-code.code (λ κs a r end. r ≡ read_at a.0.now a.1.0)
  pub next_place : Keeps reading-place-after.ended reading-place-after-code.name reading-place-after-code.code (λ κs a r end. r ≡ place_after a.1.0 a.0)
  pub reader_new : Keeps reader_new.ended reader_new-code.name reader_new-code.code (λ κs a r end. (r.journal ≡ a.0) × (r.at ≡ a.1.0))
  pub reader_next : Keeps reader_next.ended reader_next-code.name reader_next-code.code (λ κs a r end. r ≡ read_at a.0.journal.now a.0.at)
  pub reader_after : Keeps reader_after.ended reader_after-code.name reader_after-code.code (λ κs a r end. (r.journal ≡ a.0.journal) × (r.at ≡ place_after a.0.at a.1.0))
  pub reader_read_on : Keeps reader_read_on.ended reader_read_on-code.name reader_read_on-code.code (λ κs a r end. (r.found ≡ read_at a.0.now a.1.0) × (r.at ≡ place_after a.1.0 (read_at a.0.now a.1.0)))
  -- a record written, and a line of text
  pub write : Keeps writing-write.ended writing-write-code.name writing-write-code.code (λ κs a r end. Puts a.0.now a.1.0 (bytes_of a.1.1.0) r end.0.now)
  pub put_line : Keeps lines-put-line.ended lines-put-line-code.name lines-put-line-code.code (λ κs a r end. Puts a.0.now a.1.0 (text_line a.1.1.0 a.1.1.1.0 a.1.1.1.1.0) r end.0.now)
  -- the paper's numbers
  pub refusal_no : Keeps numbers-refusal-no.ended numbers-refusal-no-code.name numbers-refusal-no-code.code (λ κs a r end. r ≡ refusal_no a.0)
  pub refusal_of : Keeps numbers-refusal-of.ended numbers-refusal-of-code.name numbers-refusal-of-code.code (λ κs a r end. r ≡ refusal_of a.0)
  pub damage_no : Keeps numbers-damage-no.ended numbers-damage-no-code.name numbers-damage-no-code.code (λ κs a r end. r ≡ damage_no a.0)
  pub written_no : Keeps numbers-written-no.ended numbers-written-no-code.name numbers-written-no-code.code (λ κs a r end. r ≡ written_no a.0)
  -- the number of an edition, the byte of a tag, and back
  pub edition_no : Keeps edition-number.ended edition-number-code.name edition-number-code.code (λ κs a r end. r ≡ edition_no a.0)
  pub edition_by : Keeps number-edition.ended number-edition-code.name number-edition-code.code (λ κs a r end. r ≡ edition_by a.0)
  pub byte_of : Keeps tag-byte.ended tag-byte-code.name tag-byte-code.code (λ κs a r end. r ≡ byte_of a.0)
  pub tag_of : Keeps byte-tag.ended byte-tag-code.name byte-tag-code.code (λ κs a r end. Decodes a.0 r)
  -- the exports for C: n is the number that is answered. The static library firmware_c exports each under its name, with the same contract
  pub c_start : Keeps coherence-start.ended coherence-start-code.name coherence-start-code.code (λ κs a n end. Says (λ r. StartsByte a.1.0 a.1.1.0 a.1.1.1.0 r end.0.now) n)
  pub c_load : Keeps coherence-load.ended coherence-load-code.name coherence-load-code.code (λ κs a n end. Says (λ r. Answers a.0.now (Load a.1.0 a.1.1.0) r a.0.now) n)
  pub c_store : Keeps coherence-store.ended coherence-store-code.name coherence-store-code.code (λ κs a n end. Says (λ r. Answers a.0.now (Store a.1.0 a.1.1.0 a.1.1.1.0) r end.0.now) n)
  pub c_drop : Keeps coherence-drop.ended coherence-drop-code.name coherence-drop-code.code (λ κs a n end. Says (λ r. Answers a.0.now (Drop a.1.0 a.1.1.0) r end.0.now) n)
  pub c_ask : Keeps coherence-ask.ended coherence-ask-code.name coherence-ask-code.code (λ κs a n end. Says (λ r. Answers a.0.now (Ask a.1.0 a.1.1.0 a.1.1.1.0 a.1.1.1.1.0) r end.0.now) n)
  pub c_order : Keeps coherence-order.ended coherence-order-code.name coherence-order-code.code (λ κs a n end. Says (λ r. Answers a.0.now Order r end.0.now) n)
  pub c_deliver : Keeps coherence-deliver.ended coherence-deliver-code.name coherence-deliver-code.code (λ κs a n end. Says (λ r. Answers a.0.now (Deliver a.1.0) r end.0.now) n)
  pub c_copy : Keeps coherence-copy.ended coherence-copy-code.name coherence-copy-code.code (λ κs a n end. Says (λ r. Answers a.0.now (Copy a.1.0) r end.0.now) n)
  pub c_rejoin : Keeps coherence-rejoin.ended coherence-rejoin-code.name coherence-rejoin-code.code (λ κs a n end. Says (λ r. Answers a.0.now (Rejoin a.1.0) r end.0.now) n)
  pub c_read : Keeps coherence-read.ended coherence-read-code.name coherence-read-code.code (λ κs a n end. Reads a.0.now a.1.0.now a.1.1.0.now n end.1.0.now end.1.1.0.now)
  pub c_write : Keeps coherence-write.ended coherence-write-code.name coherence-write-code.code (λ κs a n end. Writes a.0.now a.1.0.now (named a.1.1.0 a.1.1.1.0 a.1.1.1.1.0 a.1.1.1.1.1.0 a.1.1.1.1.1.1.0 a.1.1.1.1.1.1.1.0 a.1.1.1.1.1.1.1.1.0) n end.0.now end.1.0.now)
  pub c_run : Keeps coherence-run.ended coherence-run-code.name coherence-run-code.code (λ κs a n end. RunSays a.0.now a.1.0.now a.1.1.0.now a.1.1.1.0.now n end.0.now end.1.1.0.now end.1.1.1.0.now)
  pub c_counts : Keeps coherence-counts.ended coherence-counts-code.name coherence-counts-code.code (λ κs a n end. Shows a.0.now counts a.1.0.now n end.1.0.now)
  pub c_message : Keeps coherence-message.ended coherence-message-code.name coherence-message-code.code (λ κs a n end. Shows a.0.now (message a.1.0) a.1.1.0.now n end.1.1.0.now)
  pub c_request : Keeps coherence-request.ended coherence-request-code.name coherence-request-code.code (λ κs a n end. Shows a.0.now (request a.1.0) a.1.1.0.now n end.1.1.0.now)
  pub c_cell : Keeps coherence-cell.ended coherence-cell-code.name coherence-cell-code.code (λ κs a n end. Shows a.0.now (cell a.1.0 a.1.1.0) a.1.1.1.0.now n end.1.1.1.0.now)
  pub c_home : Keeps coherence-home.ended coherence-home-code.name coherence-home-code.code (λ κs a n end. Shows a.0.now (home a.1.0) a.1.1.0.now n end.1.1.0.now)
  pub c_version : Keeps coherence-version.ended coherence-version-code.name coherence-version-code.code (λ κs a n end. n ≡ header_version)
  -- a replay from any reader to any writer, which decide how much is read and taken; of their calls the contracts of Read and Write are assumed
  pub replay : KeepsOver (λ s. bench-replay.ended s.Reader s.Writer s.reader s.read_by s.writer s.written_by) bench-replay-code.name bench-replay-code.code (λ s κs. (κs.1.1.1.0 ⊑ s.Reader.lives) × (κs.1.1.1.1.0 ⊑ s.Writer.lives)) (λ s κs a r end. (Replays end.1.1.0.now r) × (ReadsFrom (s.reader.remaining a.0.now) (s.reader.remaining end.0.now) end.1.1.0.now r) × (WritesTo (s.writer.contents a.1.0.now) (s.writer.contents end.1.0.now) end.1.1.0.now r))
  -- the columns of the card state table: where a state leads, or nowhere
  pub loads : Keeps table-loads.ended table-loads-code.name table-loads-code.code (λ κs a r end. r ≡ loads a.0)
  pub stores : Keeps table-stores.ended table-stores-code.name table-stores-code.code (λ κs a r end. r ≡ stores a.0)
  pub asks_gets : Keeps table-asks-gets.ended table-asks-gets-code.name table-asks-gets-code.code (λ κs a r end. r ≡ leads (asks_gets a.0))
  pub asks_getx : Keeps table-asks-getx.ended table-asks-getx-code.name table-asks-getx-code.code (λ κs a r end. r ≡ leads (asks_getx a.0))
  pub asks_putx : Keeps table-asks-putx.ended table-asks-putx-code.name table-asks-putx-code.code (λ κs a r end. r ≡ leads (asks_putx a.0))
  pub asked : Keeps table-asked.ended table-asked-code.name table-asked-code.code (λ κs a r end. r ≡ leads (asked a.0 a.1.0))
  pub sees_gets : Keeps table-sees-gets.ended table-sees-gets-code.name table-sees-gets-code.code (λ κs a r end. r ≡ sees_gets a.0 a.1.0)
  pub sees_getx : Keeps table-sees-getx.ended table-sees-getx-code.name table-sees-getx-code.code (λ κs a r end. r ≡ sees_getx a.0)
  pub drops : Keeps table-drops.ended table-drops-code.name table-drops-code.code (λ κs a r end. r ≡ drops a.0)
  pub waits : Keeps table-waits.ended table-waits-code.name table-waits-code.code (λ κs a r end. r ≡ waits a.0)
  pub is_reader : Keeps table-is-reader.ended table-is-reader-code.name table-is-reader-code.code (λ κs a r end. r ≡ is_reader a.0)
  pub can_give : Keeps table-can-give.ended table-can-give-code.name table-can-give-code.code (λ κs a r end. r ≡ can_give a.0)
  pub comes_from : Keeps table-comes-from.ended table-comes-from-code.name table-comes-from-code.code (λ κs a r end. r ≡ comes_from a.0 a.1.0)
  pub upgrades : Keeps table-upgrades.ended table-upgrades-code.name table-upgrades-code.code (λ κs a r end. r ≡ upgrades a.0)
  pub put_stands : Keeps table-put-stands.ended table-put-stands-code.name table-put-stands-code.code (λ κs a r end. r ≡ put_stands a.0)
  pub leaves_sharers : Keeps table-leaves-sharers.ended table-leaves-sharers-code.name table-leaves-sharers-code.code (λ κs a r end. r ≡ leaves_sharers a.0)
  pub granted_to : Keeps table-granted-to.ended table-granted-to-code.name table-granted-to-code.code (λ κs a r end. r ≡ granted_to a.0)
  pub filled_to : Keeps table-filled-to.ended table-filled-to-code.name table-filled-to-code.code (λ κs a r end. r ≡ filled_to a.0)

-- "Numbers the engine says no with"; those of reading a record, and of writing one
abbrev pub engine_numbers : List ℕ
engine_numbers = 1 ∷ 2 ∷ 3 ∷ 4 ∷ 5 ∷ 6 ∷ 7 ∷ 8 ∷ 9 ∷ 10 ∷ 11 ∷ 12 ∷ 13 ∷ 14 ∷ 15 ∷ []

abbrev pub reading_numbers : List ℕ
reading_numbers = 20 ∷ 21 ∷ 22 ∷ 23 ∷ []

abbrev pub writing_numbers : List ℕ
writing_numbers = 24 ∷ []

-- in C: 0, or a number of the list
abbrev pub Listed : ℕ → Type 0
Listed n = one_of (0 ∷ engine_numbers ++ reading_numbers ++ writing_numbers) n ≡ true

-- of every way to refuse: it has a number of its list; in C it is the answer's upper half
pub record ByNumber : Type 0 where
  pub refusal : (x : Refusal) → one_of engine_numbers (refusal_no x) ≡ true
  pub damage : (d : Damage) → one_of reading_numbers (damage_no d) ≡ true
  pub no_room : one_of writing_numbers (written_no (Err no_room)) ≡ true
  pub c_start : (e cards blocks n : ℕ) (w' : List ℕ) → Says (λ r. StartsByte e cards blocks r w') n → Listed (n / half)
  pub c_event : (w : List ℕ) (e : Event) (n : ℕ) (w' : List ℕ) → Says (λ r. Answers w e r w') n → Listed (n / half)
  pub c_read : (journal : List ℕ) (place : ℕ) (l : List ℕ) (n place' : ℕ) (l' : List ℕ) → Reads journal place l n place' l' → Listed (n / half)
  pub c_write : (buffer : List ℕ) (place : ℕ) (x : Result Record Damage) (n : ℕ) (buffer' : List ℕ) (place' : ℕ) → Writes buffer place x n buffer' place' → Listed (n / half)
  pub c_run : (w journal l t : List ℕ) (n : ℕ) (w' l' t' : List ℕ) → RunSays w journal l t n w' l' t' → Listed (n / half)
  pub c_look : (w : List ℕ) (q : Look) (l : List ℕ) (n : ℕ) (l' : List ℕ) → Shows w q l n l' → Listed (n / half)

-- the first reason of the event's list that holds, and no other, refuses it; 15 comes before all, 14 at Start, 24 at writing. For reading,
-- read_at is the list of 20 to 23 itself; a run refuses with 15 where what it is handed is not `fit`
pub record ExactlyWhen : Type 0 where
  pub ill_formed : (w : List ℕ) (e : Event) (r : Answer) (w' : List ℕ) → Answers w e r w' → formed w ≡ false → r ≡ Err IllFormed
  pub refused : (w : List ℕ) (e : Event) (r : Answer) (w' : List ℕ) → Answers w e r w' → formed w ≡ true
      → (x : Refusal) → FirstHolds (reasons (view w) e) x → r ≡ Err x
  pub accepted : (w : List ℕ) (e : Event) (r : Answer) (w' : List ℕ) → Answers w e r w' → formed w ≡ true
      → NoneHolds (reasons (view w) e) → refusal_of r ≡ 0
  pub started : (e : Edition) (cards blocks : ℕ) (r : Answer) (w' : List ℕ) → Starts e cards blocks r w' → r ≡ cond (sizes cards blocks) (Ok 0) (Err NoSuchSize)
  pub c_started : (i : Edition) (cards blocks : ℕ) (r : Answer) (w' : List ℕ) → StartsByte (edition_no i) cards blocks r w'
      → r ≡ cond (sizes cards blocks) (Ok 0) (Err NoSuchSize)
  pub c_no_edition : (e cards blocks : ℕ) (r : Answer) (w' : List ℕ) → StartsByte e cards blocks r w' → ((i : Edition) → e ≢ edition_no i)
      → r ≡ Err NoSuchSize
  pub written : (buffer : List ℕ) (at : ℕ) (bytes : List ℕ) (r : Written) (buffer' : List ℕ) → Puts buffer at bytes r buffer'
      → r ≡ cond (fits buffer at bytes) (Ok (at + length bytes)) (Err no_room)
  pub look_ill_formed : (w : List ℕ) (q : Look) → formed w ≡ false → looks w q ≡ Err IllFormed
  pub look_refused : (w : List ℕ) (q : Look) → formed w ≡ true → (x : Refusal) → FirstHolds (look_reasons (view w) q) x → looks w q ≡ Err x
  pub look_shown : (w : List ℕ) (q : Look) → formed w ≡ true → NoneHolds (look_reasons (view w) q) → looks w q ≡ Ok (shown (view w) q)

-- what is refused leaves all that is lent as it was; Start alone makes the words of no chassis then, and so does a run that is to start
pub record RefusedLeaves : Type 0 where
  pub event : (w : List ℕ) (e : Event) (x : Refusal) (w' : List ℕ) → Answers w e (Err x) w' → w' ≡ w
  pub bytes : (buffer : List ℕ) (at : ℕ) (bytes buffer' : List ℕ) → Puts buffer at bytes (Err no_room) buffer' → buffer' ≡ buffer
  pub run : (w journal : List ℕ) (s : Reached) (t : List ℕ) (x : Refusal) (w' t' : List ℕ)
      → Runs w journal s t (Err x) w' t' → (w' ≡ w) × (t' ≡ t)
  pub start : (e : Edition) (cards blocks : ℕ) (x : Refusal) (w' : List ℕ) → Starts e cards blocks (Err x) w' → w' ≡ words no_chassis
  pub c_start : (e cards blocks : ℕ) (x : Refusal) (w' : List ℕ) → StartsByte e cards blocks (Err x) w' → w' ≡ words no_chassis
  pub c_event : (w : List ℕ) (e : Event) (n : ℕ) (w' : List ℕ) → Says (λ r. Answers w e r w') n → n / half ≢ 0 → w' ≡ w
  pub c_read : (journal : List ℕ) (place : ℕ) (l : List ℕ) (n place' : ℕ) (l' : List ℕ)
      → Reads journal place l n place' l' → n / half ≢ 0 → (place' ≡ place) × (l' ≡ l)
  pub c_write : (buffer : List ℕ) (place : ℕ) (x : Result Record Damage) (n : ℕ) (buffer' : List ℕ) (place' : ℕ)
      → Writes buffer place x n buffer' place' → n / half ≢ 0 → (buffer' ≡ buffer) × (place' ≡ place)
  pub c_run : (w journal l t : List ℕ) (n : ℕ) (w' l' t' : List ℕ)
      → RunSays w journal l t n w' l' t' → n / half ≢ 0 → (w' ≡ w) × (l' ≡ l) × (t' ≡ t)
  pub c_look : (w : List ℕ) (q : Look) (l : List ℕ) (n : ℕ) (l' : List ℕ) → Shows w q l n l' → n / half ≢ 0 → l' ≡ l

-- no second answer, and no second content of what is lent, keeps a promise: a claim for each shape; an equation may be one of several, for
-- the fields of an answer
pub record NothingSecond : Type 1 where
  pub equation : OneAnswer
  pub start : StartsUnique
  pub event : AnswersUnique
  pub run : RunsUnique
  pub bytes : PutsUnique
  pub tag : (b : ℕ) (r r' : Result Tag Damage) → Decodes b r → Decodes b r' → r ≡ r'
  pub c_start : StartSaysUnique
  pub c_event : EventSaysUnique
  pub c_read : ReadsUnique
  pub c_write : WritesUnique
  pub c_run : RunSaysUnique
  pub c_look : ShowsUnique
  pub replay : ReplaysUnique

pub record Demand1 : Type 2 where
  -- "Every public entry takes any input, ends,"
  pub entries : EveryEntry
  -- "and answers or refuses by a number from the paper's list,"
  pub by_number : ByNumber
  -- "exactly when the list says so."
  pub exactly_when : ExactlyWhen
  -- "A refused event changes nothing in the chassis, a refused record nothing in the buffer."
  pub refused_leaves : RefusedLeaves
  pub nothing_second : NothingSecond

-- what the rules answer, and the chassis that they leave, is what is answered and what the words then say
pub record AsTheRules : Type 0 where
  pub at_start : (e : Edition) (cards blocks : ℕ) (r : Answer) (w' : List ℕ) → Starts e cards blocks r w' → let o = start e cards blocks in
      (refusal_of r ≡ refusal_of o.answer) × (value_of r ≡ value_of o.answer) × (view w' ≡ o.after)
  pub at_event : (w : List ℕ) (e : Event) (r : Answer) (w' : List ℕ) → EventFits e → formed w ≡ true → Answers w e r w' → let o = step (view w) e in
      (refusal_of r ≡ refusal_of o.answer) × (value_of r ≡ value_of o.answer) × (view w' ≡ o.after)
  pub c_at_start : (e cards blocks n : ℕ) (w' : List ℕ) → Says (λ r. StartsByte e cards blocks r w') n → let o = start_byte e cards blocks in
      (n / half ≡ refusal_of o.answer) × (n % half ≡ value_of o.answer) × (view w' ≡ o.after)
  pub c_edition : ByteStarts
  pub c_at_event : (w : List ℕ) (e : Event) (n : ℕ) (w' : List ℕ) → EventFits e → formed w ≡ true → Says (λ r. Answers w e r w') n → let o = step (view w) e in
      (n / half ≡ refusal_of o.answer) × (n % half ≡ value_of o.answer) × (view w' ≡ o.after)

-- the words of a chassis: what the promises lean on
pub record WordsTell : Type 0 where
  pub view_words : ViewWords
  pub all_words : AllWords
  pub formed_says : FormedSays
  pub start_forms : StartForms
  pub step_forms : StepForms

pub record Demand2 : Type 0 where
  -- "Every answer and every next state is the one that the rule paper gives."
  pub as_the_rules : AsTheRules
  pub words_tell : WordsTell
  -- "Journal records read back as the event that was written,"
  pub reads_back : ReadsBack
  pub fields_name : FieldsName
  -- "and each accepted record is the only one for its event."
  pub only_one : OnlyOne
  pub reads_only : ReadsOnly
  -- runs over a journal, piece by piece, write its whole text, and one that is over and is called again carries out nothing; the paper's
  -- journal gives the output that the paper shows
  pub runs_join : RunsJoin
  pub runs_end : RunsEnd
  pub next_fit : NextFit
  pub over_stays : OverStays
  pub paper_holds : PaperHolds

-- "In any sequence of events other than Start from a freshly started chassis": sentence by sentence in rules/specs/Demand
pub record Demand3 : Type 0 where
  pub calls_coherent : CallsAreCoherent

-- M1 to M16
pub record MarkedSequences : Type 0 where
  pub marked_come : MarkedCome

-- All of it
pub record AllDemands : Type 2 where
  pub first : Demand1
  pub second : Demand2
  pub third : Demand3
  pub marked : MarkedSequences
