-- The mask test: whether the cards that a request names are enough.
use Rattle.std.specs.Prelude.{ℕ, Bool, ◌&&◌, ◌||◌, eqb}
use Rattle.rules.specs.Tests.{◌⇒◌, all}
use Rattle.rules.specs.Masks.{has}
use Rattle.rules.specs.Numbers.{home, gets}
use Rattle.rules.specs.Chassis.{Block}
use Rattle.rules.specs.declared.Request.{Request}

-- every sharer other than q is in the mask
unfoldable pub sharers_named : ℕ → ℕ → Request → Bool
sharers_named cards sharers r = all cards (λ k. has sharers k ⇒ eqb k r.card || has r.mask k)

-- "GETS suffices when the owner is home or in the mask. GETX needs also every sharer other than q in the mask." R-1: "An upgrading owner
-- needn't be in its own mask." An owner that asks without upgrading is impossible (13), and is not looked at here.
unfoldable pub suffices : ℕ → Block → Request → Bool
unfolding sharers_named
suffices cards B r = (eqb B.owner home || eqb B.owner r.card || has r.mask B.owner)
    && (eqb r.kind gets || sharers_named cards B.sharers r)
