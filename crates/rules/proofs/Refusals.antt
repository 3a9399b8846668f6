-- Refusals: what holds where an event is refused, and where none of its reasons holds.
use Rattle.std.specs.Prelude.{Err, Ok}
use Prim.Native.Nat.{ℕ}
use mathlib.Core.Bool.{Bool, true, false, not}
use mathlib.Core.List.{List, [], ◌∷◌}
use mathlib.Core.Path.{◌≡◌, refl, sym, ap, subst}
use mathlib.Core.Logic.{◌≢◌, ⊎_elim}
use lib.Dec.{eqb}
use borrow.Author.Tests.{eq-eqb, not-true}
use Rattle.rules.specs.Tests.{all_of}
use Rattle.rules.specs.Chassis.{Chassis, message_of}
use Rattle.rules.specs.Answers.{refusal_no, refusal_of, Step, result, Reason, refused_by, FirstHolds, NoneHolds}
use Rattle.rules.specs.Order.{order, order_head}
use Rattle.rules.specs.Events.{live, deliver, reasons, effect, step}
use Rattle.rules.specs.Claims.{RefusedKeeps}
use Rattle.rules.specs.declared.Request.{Request}
use Rattle.rules.specs.Answers.{Answer}
use Rattle.rules.specs.declared.Refusal.{Refusal}
use Rattle.rules.specs.declared.Event.{Event}
use Rattle.rules.specs.declared.Event.TheVariants.{
  Load,
  Store,
  Drop,
  Ask,
  Order,
  Deliver,
  Copy,
  Rejoin,
}
use Rattle.rules.proofs.Tests.{clash, cond_cases, and_l, and_r}

-- The first reason that holds refuses; where none does, the event is done

pub refuses : (c : Chassis) (rs : List Reason) (done : Step) (x : Refusal) → FirstHolds rs x → refused_by c rs done ≡ result (Err x) c
unfolding refused_by
refuses c [] done x h = absurd h
refuses c (r ∷ rs) done x h = ⊎_elim
    (λ p. rw p.0 (ap (λ y. result (Err y) c) p.1))
    (λ p. rw p.0 (refuses c rs done x p.1)) h

pub accepts : (c : Chassis) (rs : List Reason) (done : Step) → NoneHolds rs → refused_by c rs done ≡ done
unfolding refused_by
accepts c [] done h = refl
accepts c (r ∷ rs) done h = rw h.0 (accepts c rs done h.1)

pub refused-cases : (c : Chassis) (P : Step → Type 0) (rs : List Reason) (done : Step)
    → ((r : Refusal) → P (result (Err r) c)) → (NoneHolds rs → P done) → P (refused_by c rs done)
unfolding refused_by
refused-cases c P [] done f g = g tt
refused-cases c P (r ∷ rs) done f g = cond_cases P r.holds (result (Err r.why) c) (refused_by c rs done)
    (λ _. f r.why) (λ e. refused-cases c P rs done f (λ h. g (e, h)))

-- An accepted event answers a value

abbrev pub IsDone : Answer → Type 0
IsDone (Ok v) = Unit {0}
IsDone (Err r) = ⊥

order-done : (c : Chassis) (l : List Request) → IsDone (order c l).answer
unfolding order order_head
order-done c [] = tt
order-done c (r ∷ rest) = tt

pub effect-done : (c : Chassis) (e : Event) → IsDone (effect c e).answer
unfolding effect deliver
effect-done c (Load k b) = tt
effect-done c (Store k b v) = tt
effect-done c (Drop k b) = tt
effect-done c (Ask k b kind mask) = tt
effect-done c Order = order-done c c.line
effect-done c (Deliver i) = cond_cases (λ (o : Step). IsDone o.answer) (live (c.block (message_of c i).block) (message_of c i)) _ _
    (λ _. tt) (λ _. tt)
effect-done c (Copy i) = tt
effect-done c (Rejoin k) = tt

-- "A refused event changes nothing in the chassis"
pub refused-keeps : RefusedKeeps
unfolding step
refused-keeps c e r = refused-cases c (λ (o : Step). o.answer ≡ Err r → o.after ≡ c) _ (effect c e)
    (λ _ _. refl) (λ _ h. absurd (subst IsDone h (effect-done c e)))

-- an event that would be accepted has no reason to be refused
pub accepted-none : (c : Chassis) (e : Event) (x : ℕ) → (step c e).answer ≡ Ok x → NoneHolds (reasons c e)
unfolding step
accepted-none c e x = refused-cases c (λ (o : Step). o.answer ≡ Ok x → NoneHolds (reasons c e)) _ (effect c e)
    (λ _ h. absurd (subst IsDone (sym h) tt)) (λ h _. h.1)

-- A refusal that is never given

-- n is the number of no reason that can be the first to hold
unfoldable pub Never : ℕ → List Reason → Type 0
Never n [] = Unit {0}
Never n (r ∷ rs) = (r.holds ≡ true → refusal_no r.why ≢ n) × (r.holds ≡ false → Never n rs)

pub never_first : (n : ℕ) (r : Reason) (rs : List Reason) → (r.holds ≡ true → refusal_no r.why ≢ n) → (r.holds ≡ false → Never n rs)
    → Never n (r ∷ rs)
unfolding Never
never_first n r rs f g = (f, g)

pub never-given : (c : Chassis) (x : Refusal) (rs : List Reason) (done : Step) → Never (refusal_no x) rs → IsDone done.answer
    → (refused_by c rs done).answer ≢ Err x
unfolding refused_by Never
never-given c x [] done h d = λ e. subst IsDone e d
never-given c x (r ∷ rs) done h d =
    cond_cases (λ o. o.answer ≢ Err x) r.holds (result (Err r.why) c) (refused_by c rs done)
    (λ p e. h.0 p (ap refusal_of e)) (λ p. never-given c x rs done (h.1 p) d)

-- n is the number of none of the reasons: a test that antt computes
abbrev pub unlisted : ℕ → Reason → Bool
unlisted n r = not (eqb (refusal_no r.why) n)

pub never-listed : (n : ℕ) (rs : List Reason) → all_of rs (unlisted n) ≡ true → Never n rs
unfolding all_of Never
never-listed n [] h = tt
never-listed n (r ∷ rs) h = (
  (λ _ e. clash (eq-eqb (refusal_no r.why) n e) (not-true _ (and_l (unlisted n r) (all_of rs (unlisted n)) h))),
  λ _. never-listed n rs (and_r (unlisted n r) (all_of rs (unlisted n)) h),
)
