-- What Start makes: a well formed state, or one that every event refuses.
use Rattle.std.specs.Prelude.{Err, Ok}
use Prim.Native.Nat.{ℕ}
use native.Mathlib.Omega.{arith}
use mathlib.Core.Bool.{true, false}
use mathlib.Core.Path.{◌≡◌, refl, sym, subst}
use mathlib.Core.Logic.{◌≢◌}
use borrow.Author.Tests.{not-false}
use Rattle.rules.specs.Tests.{each}
use Rattle.rules.specs.Numbers.{no_number}
use Rattle.rules.specs.Chassis.{fresh, no_chassis, fresh_block}
use Rattle.rules.specs.Answers.{Step, result, refused_by}
use Rattle.rules.specs.Formed.{sizes, home_or_card, well_formed}
use Rattle.rules.specs.Events.{step, start}
use Rattle.rules.specs.Claims.{StartFormed, RefusedStart}
use Rattle.rules.specs.declared.Edition.{Edition}
use Rattle.rules.specs.declared.Refusal.{Refusal}
use Rattle.rules.proofs.Masks.{none_inside}
use Rattle.rules.proofs.Refusals.{refused-cases, IsDone}
use Rattle.rules.proofs.Formed.{idle-wf, idle-unused, →unused, →wf}

-- an accepted Start has sizes in range, and makes a fresh chassis
pub start-cases : (e : Edition) (cards blocks : ℕ) (P : Step → Type 0)
    → (sizes cards blocks ≡ true → P (result (Ok 0) (fresh e cards blocks)))
    → ((r : Refusal) → P (result (Err r) no_chassis)) → P (start e cards blocks)
unfolding start
start-cases e cards blocks P f g = refused-cases no_chassis P _ (result (Ok 0) (fresh e cards blocks))
    g (λ h. f (not-false (sizes cards blocks) h.0))

pub refused≢done : (r : Refusal) (v : ℕ) → Err r ≢ Ok v
refused≢done r v e = subst IsDone (sym e) tt

pub fresh-formed : (e : Edition) (cards blocks : ℕ) → sizes cards blocks ≡ true → well_formed (fresh e cards blocks) ≡ true
unfolding home_or_card
fresh-formed e cards blocks h = →wf (fresh e cards blocks) (record {
  size = h;
  line_room = omega arith;
  pool_room = omega arith;
  requests = tt;
  messages = tt;
  used = λ b l u. record {
    owner = refl;
    sharers = none_inside cards;
    places = λ k l8. record { used = λ _. idle-wf e no_number; unused = λ _. idle-unused };
  };
  unused = λ b l u. →unused fresh_block (record { memory = refl; owner = refl; sharers = refl; cells = λ _ _. idle-unused });
})

pub start-formed : StartFormed
start-formed e cards blocks v = start-cases e cards blocks (λ o. o.answer ≡ Ok v → well_formed o.after ≡ true)
    (λ h _. fresh-formed e cards blocks h) (λ r f. absurd (refused≢done r v f))

-- no event is accepted without a card
no-cards : well_formed no_chassis ≡ false
unfolding well_formed each sizes
no-cards = refl

pub refused-start : RefusedStart
unfolding step refused_by
refused-start e cards blocks r h = (
  start-cases e cards blocks (λ o. o.answer ≡ Err r → o.after ≡ no_chassis)
      (λ _ h. absurd (refused≢done r 0 (sym h))) (λ _ _. refl) h,
  λ _. rw no-cards,
)
