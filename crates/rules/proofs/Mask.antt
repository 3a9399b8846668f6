-- The mask test: what a mask that suffices names, and that a mask of every card does.
use Prim.Native.Nat.{ℕ, ◌<◌}
use mathlib.Core.Bool.{true, false, ◌||◌}
use mathlib.Core.Path.{◌≡◌, sym}
use mathlib.Core.Logic.{◌≢◌}
use lib.Dec.{eqb}
use borrow.Author.Tests.{ne_eqb}
use Rattle.rules.specs.Tests.{◌⇒◌}
use Rattle.rules.specs.Masks.{has, every}
use Rattle.rules.specs.Mask.{sharers_named, suffices}
use Rattle.rules.specs.Numbers.{home, gets}
use Rattle.rules.specs.Chassis.{Block}
use Rattle.rules.specs.declared.Request.{Request}
use Rattle.rules.proofs.Tests.{and_i, and_r, or-i, or_l, imp, imp-i, all-intro, all-elim}
use Rattle.rules.proofs.Masks.{has-every}

module _ (cards : ℕ) (B : Block) (r : Request) where
  -- every sharer but the asker is in a mask that suffices for GETX
  pub sharers-named : eqb r.kind gets ≡ false → suffices cards B r ≡ true
      → (k : ℕ) → k < cards → has B.sharers k ≡ true → r.card ≢ k → has r.mask k ≡ true
  unfolding suffices sharers_named
  sharers-named g f k k< sh ne =
      let t = imp (all-elim cards (λ k. has B.sharers k ⇒ eqb k r.card || has r.mask k)
      (rw g at (and_r (eqb B.owner home || eqb B.owner r.card || has r.mask B.owner) _ f)) k k<) sh in
      rw (ne_eqb k r.card (λ e. ne (sym e))) at t

  -- a mask of every card suffices
  pub every-suffices : (eqb B.owner home ≡ false → B.owner < cards) → r.mask ≡ every cards → suffices cards B r ≡ true
  unfolding suffices sharers_named
  every-suffices owner-card e =
      and_i {a = eqb B.owner home || eqb B.owner r.card || has r.mask B.owner}
      (or-i {a = eqb B.owner home || eqb B.owner r.card} (λ f. rw e (has-every cards B.owner (owner-card (or_l (eqb B.owner home) (eqb B.owner r.card) f)))))
      (or-i {a = eqb r.kind gets} (λ _. all-intro cards (λ k. has B.sharers k ⇒ eqb k r.card || has r.mask k)
      (λ k l. imp-i (has B.sharers k) (λ _. or-i {a = eqb k r.card} (λ _. rw e (has-every cards k l))))))
