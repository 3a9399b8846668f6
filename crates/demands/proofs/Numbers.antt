-- Every refusal has a number of the list, and in C it stands in the upper half of what is answered.
use Rattle.std.specs.Prelude.{Result, Err, None, Ok, Some}
use Prim.Native.Nat.{ℕ, ◌*◌, ◌/◌}
use native.Mathlib.Omega.{arith}
use mathlib.Core.Bool.{true, true≢false}
use mathlib.Core.List.{List, [], ◌∷◌, ◌++◌}
use mathlib.Core.Path.{◌≡◌, refl, sym, ap, subst, ◌∙◌}
use lib.Dec.{eqb}
use Rattle.rules.specs.Tests.{one_of}
use Rattle.rules.proofs.Tests.{test}
use Rattle.rules.specs.Answers.{refusal_no, refusal_of}
use Rattle.rules.specs.Answers.{Answer}
use Rattle.rules.specs.declared.Refusal.{Refusal}
use Rattle.rules.specs.declared.Refusal.TheVariants.{
  NoSuchCard,
  NoSuchBlock,
  NoRight,
  AskNotAllowed,
  NoSuchKind,
  StrangerInMask,
  LineFull,
  LineEmpty,
  BlockHeld,
  PoolFull,
  NoSuchMessage,
  NumbersSpent,
  Impossible,
  NoSuchSize,
  IllFormed,
}
use Rattle.journal.specs.Reading.{Found, damage_no, read_at}
use Rattle.journal.specs.Writing.{Written, written_no}
use Rattle.journal.specs.declared.Damage.{Damage}
use Rattle.journal.specs.declared.Damage.TheVariants.{CutShort, UnknownTag, WrongLength, WrongOpening}
use Rattle.journal.specs.declared.Record.{Record}
use Rattle.engine.specs.Looking.{looks}
use Rattle.engine.specs.declared.Seen.{Seen}
use Rattle.engine.specs.declared.run.Ran.{Ran}
use Rattle.firmware.specs.Halves.{half}
use Rattle.firmware.specs.Journals.{found_number, ran_number, Writes}
use Rattle.firmware.specs.Looks.{seen_number}
use Rattle.firmware.proofs.Unique.{halves-tell, values-fit}
use Rattle.demands.specs.Demands.{engine_numbers, reading_numbers, writing_numbers, Listed, ByNumber}

refusal : (x : Refusal) → one_of engine_numbers (refusal_no x) ≡ true
unfolding one_of
refusal NoSuchCard = refl
refusal NoSuchBlock = refl
refusal NoRight = refl
refusal AskNotAllowed = refl
refusal NoSuchKind = refl
refusal StrangerInMask = refl
refusal LineFull = refl
refusal LineEmpty = refl
refusal BlockHeld = refl
refusal PoolFull = refl
refusal NoSuchMessage = refl
refusal NumbersSpent = refl
refusal Impossible = refl
refusal NoSuchSize = refl
refusal IllFormed = refl

damage : (d : Damage) → one_of reading_numbers (damage_no d) ≡ true
unfolding one_of
damage CutShort = refl
damage UnknownTag = refl
damage WrongLength = refl
damage WrongOpening = refl

-- a number of one list is one of those that are put together of it and others

one-left : (l m : List ℕ) (n : ℕ) → one_of l n ≡ true → one_of (l ++ m) n ≡ true
unfolding one_of
one-left [] m n h = absurd (true≢false (sym h))
one-left (x ∷ l) m n h = test (eqb x n) (λ e. rw e) (λ e. rw e (one-left l m n (rw e at h)))

one-right : (l m : List ℕ) (n : ℕ) → one_of m n ≡ true → one_of (l ++ m) n ≡ true
unfolding one_of
one-right [] m n h = h
one-right (x ∷ l) m n h = test (eqb x n) (λ e. rw e) (λ e. rw e (one-right l m n h))

refusal-listed : (x : Refusal) → Listed (refusal_no x)
refusal-listed x = one-right (0 ∷ []) _ _ (one-left engine_numbers (reading_numbers ++ writing_numbers) _ (refusal x))

damage-listed : (d : Damage) → Listed (damage_no d)
damage-listed d = one-right (0 ∷ engine_numbers) _ _ (one-left reading_numbers writing_numbers _ (damage d))

answer : (r : Answer) → Listed (refusal_of r)
unfolding one_of
answer (Ok v) = refl
answer (Err x) = refusal-listed x

written : (r : Written) → Listed (written_no r)
unfolding one_of
written (Ok n) = refl
written (Err e) = refl

-- the upper half

pub whole-half : (x : ℕ) → (x * half) / half ≡ x
whole-half x = omega arith

upper : (n x : ℕ) → n ≡ x * half → Listed x → Listed (n / half)
upper n x e h = subst Listed (sym (ap (λ m. m / half) e ∙ whole-half x)) h

found : (f : Found) → Listed (found_number f / half)
unfolding one_of
found (Ok (Some (one, next))) = refl
found (Ok None) = refl
found (Err d) = upper _ (damage_no d) refl (damage-listed d)

ran : (r : Result Ran Refusal) → Listed (ran_number r / half)
unfolding one_of
ran (Ok (Ran.More q n)) = refl
ran (Ok (Ran.Over q n)) = refl
ran (Err x) = upper _ (refusal_no x) refl (refusal-listed x)

seen : (s : Result Seen Refusal) → Listed (seen_number s / half)
unfolding one_of
seen (Ok s) = refl
seen (Err x) = upper _ (refusal_no x) refl (refusal-listed x)

writes : (buffer : List ℕ) (place : ℕ) (x : Result Record Damage) (n : ℕ) (buffer' : List ℕ) (place' : ℕ) → Writes buffer place x n buffer' place' → Listed (n / half)
writes buffer place (Ok one) n buffer' place' h = upper n (written_no h.0) h.2 (written h.0)
writes buffer place (Err d) n buffer' place' h = upper n (damage_no d) h.0 (damage-listed d)

pub by_number : ByNumber
unfolding one_of
by_number = record {
  refusal = refusal;
  damage = damage;
  no_room = refl;
  c_start = λ e cards blocks n w' h. subst Listed
      (sym (ap (λ m. m / half) h.told ∙ (halves-tell h.answer (values-fit.start e cards blocks h.answer w' h.kept)).0)) (answer h.answer);
  c_event = λ w e n w' h. subst Listed
      (sym (ap (λ m. m / half) h.told ∙ (halves-tell h.answer (values-fit.event w e h.answer w' h.kept)).0)) (answer h.answer);
  c_read = λ journal place l n place' l' h. subst (λ m. Listed (m / half)) (sym h.answer) (found (read_at journal place));
  c_write = writes;
  c_run = λ w journal l t n w' l' t' h. subst (λ m. Listed (m / half)) (sym h.told) (ran h.ran);
  c_look = λ w q l n l' h. subst (λ m. Listed (m / half)) (sym h.answer) (seen (looks w q));
}
