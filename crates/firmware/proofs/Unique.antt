-- What is claimed of the exports: their numbers tell the answers, and nothing second keeps their promises.
use Rattle.std.specs.Prelude.{Err, Ok}
use Prim.Native.Nat.{ℕ, ◌*◌, ◌<◌}
use native.Mathlib.Omega.{arith}
use lib.Dec.{eqb}
use mathlib.Core.Path.{◌≡◌, sym, ap, subst, ◌∙◌}
use Rattle.rules.specs.Numbers.{edition_no}
use Rattle.rules.specs.Answers.{value_of, Step, refused_by}
use Rattle.rules.specs.Formed.{sizes}
use Rattle.rules.specs.Events.{start}
use Rattle.rules.specs.declared.Edition.{Edition}
use Rattle.rules.specs.declared.Edition.TheVariants.{Msi, Mosi}
use Rattle.rules.specs.Answers.{Answer}
use Rattle.rules.proofs.Tests.{test, cond_cases}
use Rattle.rules.proofs.Unique.{one_answer}
use Rattle.journal.specs.Records.{bytes_of}
use Rattle.journal.specs.Writing.{written_no, place_written}
use Rattle.journal.specs.Writing.{Written}
use Rattle.journal.proofs.Puts.{puts-unique}
use Rattle.words.specs.Words.{formed}
use Rattle.words.proofs.Values.{value-fits}
use Rattle.engine.proofs.Promised.{answers-unique}
use Rattle.engine.proofs.Went.{runs-unique}
use Rattle.firmware.specs.Halves.{half, one_number, Says}
use Rattle.firmware.specs.Editions.{by_edition, start_byte}
use Rattle.firmware.specs.Journals.{reached_in, ran_number, standing_after}
use Rattle.firmware.specs.Claims.{
  HalvesTell,
  ValuesFit,
  ByteStarts,
  StartSaysUnique,
  EventSaysUnique,
  ReadsUnique,
  WritesUnique,
  RunSaysUnique,
  ShowsUnique,
}
use Rattle.firmware.proofs.Laws.{at-edition, at_none}

pub halves-tell : HalvesTell
halves-tell r l = (omega arith, omega arith)

-- Start answers 0 or a refusal, an event a value that words say
started : (e : Edition) (cards blocks : ℕ) → value_of (start e cards blocks).answer < half
unfolding start refused_by
started e cards blocks = test (sizes cards blocks) (λ e. rw e (omega arith)) (λ e. rw e (omega arith))

started-byte : (e cards blocks : ℕ) → value_of (start_byte e cards blocks).answer < half
unfolding start_byte by_edition
started-byte e cards blocks = cond_cases (λ (o : Step). value_of o.answer < half) (eqb e (edition_no Msi)) _ _ (λ _. started Msi cards blocks)
    (λ _. cond_cases (λ (o : Step). value_of o.answer < half) (eqb e (edition_no Mosi)) _ _ (λ _. started Mosi cards blocks) (λ _. omega arith))

pub values-fit : ValuesFit
values-fit = record {
  start = λ e cards blocks r w' h. subst (λ (q : Answer). value_of q < half) (sym h.answer) (started-byte e cards blocks);
  event = λ w e r w' h. subst (λ (q : Answer). value_of q < half) (sym h.answer)
      (test (formed w) (λ f. rw f (value-fits w e)) (λ f. rw f (omega arith)));
}

-- each edition has its byte, and no other byte has one
pub byte-starts : ByteStarts
byte-starts = record { edition = at-edition; no_edition = λ e cards blocks n. at_none e cards blocks (n Msi) (n Mosi) }

-- the numbers of one answer are one number
says-one : {P Q : Answer → Type 0} (n m : ℕ) (a : Says P n) (b : Says Q m) → a.answer ≡ b.answer → n ≡ m
says-one n m a b e = a.told ∙ ap one_number e ∙ sym b.told

pub start-says-unique : StartSaysUnique
start-says-unique e cards blocks n m w₁ w₂ a b =
    (says-one n m a b (one_answer _ _ a.answer b.answer a.kept.answer b.kept.answer), one_answer _ _ w₁ w₂ a.kept.after b.kept.after)

pub event-says-unique : EventSaysUnique
event-says-unique w e n m w₁ w₂ a b =
    let u = answers-unique w e a.answer b.answer w₁ w₂ a.kept b.kept in
    (says-one n m a b u.0, u.1)

pub reads-unique : ReadsUnique
reads-unique j p l n m p₁ p₂ l₁ l₂ a b =
    (one_answer _ _ n m a.answer b.answer, one_answer _ _ p₁ p₂ a.after b.after, one_answer _ _ l₁ l₂ a.fields_after b.fields_after)

pub writes-unique : WritesUnique
writes-unique b p (Ok one) n m b₁ b₂ p₁ p₂ h k =
    let u = puts-unique b p (bytes_of one) h.0 k.0 b₁ b₂ h.1 k.1 in
    (h.2 ∙ ap (λ (r : Written). written_no r * half) u.0 ∙ sym k.2, u.1, h.3 ∙ ap (place_written p) u.0 ∙ sym k.3)
writes-unique b p (Err d) n m b₁ b₂ p₁ p₂ h k = (one_answer _ _ n m h.0 k.0, one_answer _ _ b₁ b₂ h.1 k.1, one_answer _ _ p₁ p₂ h.2 k.2)

pub run-says-unique : RunSaysUnique
run-says-unique w j l t n m w₁ w₂ l₁ l₂ t₁ t₂ a b =
    let u = runs-unique w j (reached_in l) t a.ran b.ran w₁ w₂ t₁ t₂ a.kept b.kept in
    (a.told ∙ ap ran_number u.0 ∙ sym b.told, u.1, a.stands ∙ ap (standing_after l) u.0 ∙ sym b.stands, u.2)

pub shows-unique : ShowsUnique
shows-unique w q l n m l₁ l₂ a b = (one_answer _ _ n m a.answer b.answer, one_answer _ _ l₁ l₂ a.numbers b.numbers)
