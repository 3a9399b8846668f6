-- What is answered and left by whatever keeps a promise: when it refuses, what it leaves then, and that it is what the rules give.
use Rattle.std.specs.Prelude.{Result, Err, None, Ok, Some}
use Prim.Native.Nat.{ℕ, ◌+◌, ◌*◌, ◌/◌, ◌%◌}
use native.Mathlib.Omega.{arith}
use mathlib.Core.Bool.{true, false, cond}
use mathlib.Core.List.{List, [], ◌∷◌, ◌++◌}
use mathlib.Core.Path.{◌≡◌, refl, sym, ap, subst, ◌∙◌}
use mathlib.Core.Logic.{◌≢◌, inl, inr}
use lib.ListN.{length, drop}
use lib.Dec.{eqb}
use Rattle.rules.specs.Chassis.{no_chassis}
use Rattle.rules.specs.Answers.{refusal_of, value_of, Step, Reason, refused_by, FirstHolds, NoneHolds}
use Rattle.rules.specs.Formed.{sizes}
use Rattle.rules.specs.Events.{reasons, effect, EventFits, step, start}
use Rattle.rules.specs.Answers.{Answer}
use Rattle.rules.specs.declared.Refusal.{Refusal}
use Rattle.rules.specs.declared.Refusal.TheVariants.{NoSuchSize, IllFormed}
use Rattle.rules.specs.declared.Event.{Event}
use Rattle.rules.proofs.Tests.{test, cond_cases}
use Rattle.rules.proofs.Refusals.{IsDone, effect-done, refuses, accepts, refused-keeps}
use Rattle.rules.proofs.Start.{refused-start}
use Rattle.journal.specs.Records.{bytes_of}
use Rattle.journal.specs.Reading.{Found, place_after, read_at}
use Rattle.journal.specs.Writing.{Written, no_room, written_no, place_written, fits, put, Puts}
use Rattle.journal.specs.Text.{Piece, piece}
use Rattle.journal.specs.declared.Damage.{Damage}
use Rattle.journal.specs.declared.Record.{Record}
use Rattle.words.specs.Words.{words, view, formed}
use Rattle.words.specs.Inner.Parts.{act}
use Rattle.words.proofs.View.{formed-words, formed-chassis}
use Rattle.words.proofs.Does.{step-act}
use Rattle.words.proofs.Keeps.{step-says, fresh-view}
use Rattle.engine.specs.Promise.{Answers}
use Rattle.engine.specs.Running.{fit, standing, ran, Runs}
use Rattle.engine.specs.Looking.{look_reasons, shown, unless, looks}
use Rattle.engine.specs.declared.Seen.{Seen}
use Rattle.engine.specs.declared.run.Reached.{Reached}
use Rattle.engine.specs.declared.run.Ran.{Ran}
use Rattle.engine.proofs.Marked.{start-means}
use Rattle.firmware.specs.Halves.{half}
use Rattle.firmware.specs.Journals.{found_number, fields_after, Writes, reached_in, ran_number, standing_after}
use Rattle.firmware.specs.Looks.{seen_number, seen_after}
use Rattle.firmware.proofs.Unique.{halves-tell, values-fit, byte-starts}
use Rattle.demands.specs.Demands.{ExactlyWhen, RefusedLeaves, AsTheRules}
use Rattle.rules.specs.Numbers.{edition_no}
use Rattle.rules.specs.declared.Edition.TheVariants.{Msi, Mosi}
use Rattle.firmware.specs.Editions.{by_edition, start_byte}
use Rattle.rules.specs.declared.Edition.{Edition}

-- An event on formed words, and on others

module _ {w : List ℕ} {e : Event} {r : Answer} {w' : List ℕ} (a : Answers w e r w') where
  ill : formed w ≡ false → (r ≡ Err IllFormed) × (w' ≡ w)
  ill f = (
    a.answer ∙ ap (λ t. cond t (step (view w) e).answer (Err IllFormed)) f,
    a.after ∙ ap (λ t. cond t (words (step (view w) e).after) w) f,
  )

  well : formed w ≡ true → (r ≡ (step (view w) e).answer) × (w' ≡ words (step (view w) e).after)
  well f = (
    a.answer ∙ ap (λ t. cond t (step (view w) e).answer (Err IllFormed)) f,
    a.after ∙ ap (λ t. cond t (words (step (view w) e).after) w) f,
  )

  -- the rules' reasons decide
  decided : formed w ≡ true → (o : Step) → refused_by (view w) (reasons (view w) e) (effect (view w) e) ≡ o → r ≡ o.answer
  unfolding act
  decided f o h = (well f).0 ∙ ap (λ (q : Step). q.answer) (step-act (view w) e (formed-chassis w f) ∙ h)

  -- a refused one leaves the words
  kept : (x : Refusal) → r ≡ Err x → w' ≡ w
  kept x h = test (formed w)
      (λ f. (well f).1 ∙ ap words (refused-keeps (view w) e x (sym (well f).0 ∙ h)) ∙ sym (formed-words w f))
      (λ f. (ill f).1)

done-0 : (r : Answer) → IsDone r → refusal_of r ≡ 0
done-0 (Ok v) h = refl
done-0 (Err x) h = absurd h

-- A look: the first reason that holds refuses it

look-stops : (rs : List Reason) (s : Seen) (x : Refusal) → FirstHolds rs x → unless rs s ≡ Err x
unfolding unless
look-stops [] s x h = absurd h
look-stops (r ∷ rs) s x (inl h) = rw h.0 (ap Err h.1)
look-stops (r ∷ rs) s x (inr h) = rw h.0 (look-stops rs s x h.1)

look-goes : (rs : List Reason) (s : Seen) → NoneHolds rs → unless rs s ≡ Ok s
unfolding unless
look-goes [] s h = refl
look-goes (r ∷ rs) s h = rw h.0 (look-goes rs s h.1)

-- 14 is decided by the sizes
size-decides : (e : Edition) (cards blocks : ℕ) → (start e cards blocks).answer ≡ cond (sizes cards blocks) (Ok 0) (Err NoSuchSize)
unfolding start refused_by
size-decides e cards blocks = test (sizes cards blocks) (λ h. rw h) (λ h. rw h)

pub exactly_when : ExactlyWhen
unfolding looks
exactly_when = record {
  ill_formed = λ w e r w' a f. (ill a f).0;
  refused = λ w e r w' a f x h. decided a f _ (refuses (view w) (reasons (view w) e) (effect (view w) e) x h);
  accepted = λ w e r w' a f h. ap refusal_of (decided a f _ (accepts (view w) (reasons (view w) e) (effect (view w) e) h)) ∙ done-0 (effect (view w) e).answer (effect-done (view w) e);
  started = λ e cards blocks r w' s. s.answer ∙ size-decides e cards blocks;
  c_started = λ i cards blocks r w' s. s.answer ∙ ap (λ (o : Step). o.answer) (byte-starts.edition i cards blocks) ∙ size-decides i cards blocks;
  c_no_edition = λ e cards blocks r w' s n. s.answer ∙ ap (λ (o : Step). o.answer) (byte-starts.no_edition e cards blocks n);
  written = λ buffer at bytes r buffer' p. p.answer;
  look_ill_formed = λ w q f. rw f;
  look_refused = λ w q f x h. rw f (look-stops (look_reasons (view w) q) (shown (view w) q) x h);
  look_shown = λ w q f h. rw f (look-goes (look_reasons (view w) q) (shown (view w) q) h);
}

-- What is refused leaves what is lent

unwritten : (buffer : List ℕ) (at : ℕ) (bytes : List ℕ) (r : Written) (buffer' : List ℕ) → Puts buffer at bytes r buffer' → written_no r ≢ 0 → buffer' ≡ buffer
unwritten buffer at bytes r buffer' p h = test (fits buffer at bytes)
    (λ f. absurd (h (ap written_no (p.answer ∙ ap (λ t. cond t (Ok (at + length bytes)) (Err no_room)) f))))
    (λ f. p.after ∙ ap (λ t. cond t (put buffer at bytes) buffer) f)

-- whether a run refused
refused_run : Result Ran Refusal → ℕ
refused_run (Ok (Ran.More q n)) = 0
refused_run (Ok (Ran.Over q n)) = 0
refused_run (Err x) = 1

went-not : (p : Piece) → refused_run (Ok (ran p)) ≡ 0
unfolding refused_run
went-not p = test p.more (λ e. rw e) (λ e. rw e)

run-left : (w journal : List ℕ) (s : Reached) (t : List ℕ) (r : Result Ran Refusal) (w' t' : List ℕ) → Runs w journal s t r w' t' → refused_run r ≢ 0
    → (w' ≡ w) × (t' ≡ t)
run-left w journal s t r w' t' h x =
    let p = piece journal (length t) (standing w s) in
    test (fit w s)
    (λ f. absurd (x (ap refused_run (h.answer ∙ ap (λ b. cond b (Ok (ran p)) (Err IllFormed)) f) ∙ went-not p)))
    (λ f. (
      h.after ∙ ap (λ b. cond b (words p.after.chassis) w) f,
      h.text ∙ ap (λ b. cond b (p.text ++ drop (length p.text) t) t) f,
    ))

says-refused : (r : Answer) (P : Refusal → Type 0) → refusal_of r ≢ 0 → ((x : Refusal) → r ≡ Err x → P x) → (x : Refusal) × P x
says-refused (Ok v) P h f = absurd (h refl)
says-refused (Err x) P h f = (x, f x refl)

read_left : (place : ℕ) (l : List ℕ) (f : Found) → found_number f / half ≢ 0 → (place_after place f ≡ place) × (fields_after l f ≡ l)
read_left place l (Ok (Some (one, next))) h = absurd (h refl)
read_left place l (Ok None) h = (refl, refl)
read_left place l (Err d) h = (refl, refl)

place-left : (place : ℕ) (r : Written) → written_no r ≢ 0 → place_written place r ≡ place
place-left place (Ok n) h = absurd (h refl)
place-left place (Err e) h = refl

write-left : (buffer : List ℕ) (place : ℕ) (x : Result Record Damage) (n : ℕ) (buffer' : List ℕ) (place' : ℕ) → Writes buffer place x n buffer' place' → n / half ≢ 0
    → (buffer' ≡ buffer) × (place' ≡ place)
write-left buffer place (Ok one) n buffer' place' h x =
    let refused : written_no h.0 ≢ 0 = λ z. x (ap (λ m. m / half) (h.2 ∙ ap (λ m. m * half) z)) in
    (unwritten buffer place (bytes_of one) h.0 buffer' h.1 refused, h.3 ∙ place-left place h.0 refused)
write-left buffer place (Err d) n buffer' place' h x = (h.1, h.2)

stands-left : (l : List ℕ) (r : Result Ran Refusal) → ran_number r / half ≢ 0 → (refused_run r ≢ 0) × (standing_after l r ≡ l)
unfolding refused_run
stands-left l (Ok (Ran.More q n)) h = absurd (h refl)
stands-left l (Ok (Ran.Over q n)) h = absurd (h refl)
stands-left l (Err x) h = ((λ z. absurd (omega (arith, z))), refl)

seen-left : (l : List ℕ) (s : Result Seen Refusal) → seen_number s / half ≢ 0 → seen_after l s ≡ l
seen-left l (Ok s) h = absurd (h refl)
seen-left l (Err x) h = refl

-- a refused Start makes no chassis, whatever its byte was
byte-refused : (e cards blocks : ℕ) (x : Refusal) → (start_byte e cards blocks).answer ≡ Err x → (start_byte e cards blocks).after ≡ no_chassis
unfolding start_byte by_edition
byte-refused e cards blocks x = cond_cases (λ (o : Step). o.answer ≡ Err x → o.after ≡ no_chassis) (eqb e (edition_no Msi)) _ _
    (λ _ h. (refused-start Msi cards blocks x h).0)
    (λ _. cond_cases (λ (o : Step). o.answer ≡ Err x → o.after ≡ no_chassis) (eqb e (edition_no Mosi)) _ _
    (λ _ h. (refused-start Mosi cards blocks x h).0) (λ _ _. refl))

pub refused_leaves : RefusedLeaves
unfolding refused_run
refused_leaves = record {
  event = λ w e x w' a. kept a x refl;
  bytes = λ buffer at bytes buffer' p. unwritten buffer at bytes (Err no_room) buffer' p (λ z. absurd (omega (arith, z)));
  run = λ w journal s t x w' t' h. run-left w journal s t (Err x) w' t' h (λ z. absurd (omega (arith, z)));
  start = λ e cards blocks x w' s. s.after ∙ ap words (refused-start e cards blocks x (sym s.answer)).0;
  c_start = λ e cards blocks x w' s. s.after ∙ ap words (byte-refused e cards blocks x (sym s.answer));
  c_event = λ w e n w' h z.
      let upper = ap (λ m. m / half) h.told ∙ (halves-tell h.answer (values-fit.event w e h.answer w' h.kept)).0 in
      (says-refused h.answer (λ _. w' ≡ w) (λ d. z (upper ∙ d)) (λ x is. kept h.kept x is)).1;
  c_read = λ journal place l n place' l' h z.
      let k = read_left place l (read_at journal place) (λ d. z (ap (λ m. m / half) h.answer ∙ d)) in
      (h.after ∙ k.0, h.fields_after ∙ k.1);
  c_write = write-left;
  c_run = λ w journal l t n w' l' t' h z.
      let k = stands-left l h.ran (λ d. z (ap (λ m. m / half) h.told ∙ d)) in
      let r = run-left w journal (reached_in l) t h.ran w' t' h.kept k.0 in
      (r.0, h.stands ∙ k.1, r.1);
  c_look = λ w q l n l' h z. h.numbers ∙ seen-left l (looks w q) (λ d. z (ap (λ m. m / half) h.answer ∙ d));
}

-- The rules' answers, and the chassis that the words say

next-view : (w : List ℕ) (e : Event) (w' : List ℕ) → EventFits e → formed w ≡ true → w' ≡ words (step (view w) e).after → view w' ≡ (step (view w) e).after
next-view w e w' f h a =
    let same = formed-words w h in
    ap view a ∙ (step-says (view w) e f (subst (λ (v : List ℕ). formed v ≡ true) same h, ap view (sym same))).1

byte-means : (e cards blocks : ℕ) → view (words (start_byte e cards blocks).after) ≡ (start_byte e cards blocks).after
unfolding start_byte by_edition
byte-means e cards blocks = cond_cases (λ (o : Step). view (words o.after) ≡ o.after) (eqb e (edition_no Msi)) _ _ (λ _. start-means Msi cards blocks)
    (λ _. cond_cases (λ (o : Step). view (words o.after) ≡ o.after) (eqb e (edition_no Mosi)) _ _ (λ _. start-means Mosi cards blocks) (λ _. fresh-view Msi 0 0))

pub as_the_rules : AsTheRules
as_the_rules = record {
  at_start = λ e cards blocks r w' s. (ap refusal_of s.answer, ap value_of s.answer, ap view s.after ∙ start-means e cards blocks);
  c_edition = byte-starts;
  at_event = λ w e r w' f h a. let k = well a h in (ap refusal_of k.0, ap value_of k.0, next-view w e w' f h k.1);
  c_at_start = λ e cards blocks n w' h.
      let s = h.kept in
      let t = halves-tell h.answer (values-fit.start e cards blocks h.answer w' s) in (
        ap (λ m. m / half) h.told ∙ t.0 ∙ ap refusal_of s.answer,
        ap (λ m. m % half) h.told ∙ t.1 ∙ ap value_of s.answer,
        ap view s.after ∙ byte-means e cards blocks,
      );
  c_at_event = λ w e n w' f g h.
      let k = well h.kept g in
      let t = halves-tell h.answer (values-fit.event w e h.answer w' h.kept) in (
        ap (λ m. m / half) h.told ∙ t.0 ∙ ap refusal_of k.0,
        ap (λ m. m % half) h.told ∙ t.1 ∙ ap value_of k.0,
        next-view w e w' f g k.1,
      );
}
