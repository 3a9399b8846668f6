-- `mask::sharers_named`: of the cards that are there, none is in the set of the sharers that are missed.
use Prim.Native.Nat.{ℕ}
use borrow.Author.Tests.{eqb-true, eqb-false}
use mathlib.Core.Bool.{Bool, true, false, not, ◌&&◌, ◌||◌}
use mathlib.Core.Path.{◌≡◌, refl, sym}
use lib.Dec.{eqb}
use lib.Bits.{bit_and}
use Rattle.rules.specs.Tests.{◌⇒◌}
use Rattle.rules.specs.Masks.{has, only, every, union, without}
use Rattle.rules.specs.Mask.{sharers_named}
use Rattle.rules.specs.declared.Request.{Request}
use Rattle.rules.proofs.Tests.{test}
use Rattle.rules.proofs.Masks.{has-union, has-without, has-only, has-only-other, none-there}
use Rattle.engine.proofs.mask.sharers_named.Goals as goal

-- the mask of one card has that card alone
only-has : (q k : ℕ) → has (only q) k ≡ eqb k q
only-has q k = test (eqb k q)
    (λ e. rw (e, eqb-true k q e) (has-only q))
    (λ e. rw e (has-only-other q k (λ f. eqb-false k q e (sym f))))

-- a sharer is missed that is neither the asker nor in the mask
missed-has : (s q m k : ℕ) → has (without s (union (only q) m)) k ≡ not (has s k ⇒ eqb k q || has m k)
missed-has s q m k = rw (has-without s (union (only q) m) k, has-union (only q) m k, only-has q k) (go (has s k))
  where
    go : (a : Bool) → (a && not (eqb k q || has m k)) ≡ not (a ⇒ eqb k q || has m k)
    go true = refl
    go false = refl

named-all : (cards sharers : ℕ) (r : Request) (a n m e : ℕ) → a ≡ only r.card → n ≡ union a r.mask → m ≡ without sharers n → e ≡ every cards
    → eqb (bit_and m e) 0 ≡ sharers_named cards sharers r
unfolding sharers_named
named-all cards sharers r a n m e ea en em ee =
    rw (em, en, ea, ee)
    (none-there cards (without sharers (union (only r.card) r.mask)) (λ k. has sharers k ⇒ eqb k r.card || has r.mask k)
    (λ k _. missed-has sharers r.card r.mask k))

pub returns : goal.returns
returns c =
    named-all _ _ _ _ _ _ _ c.only.ensures c.union-named.ensures c.without-missed.ensures c.every.ensures
