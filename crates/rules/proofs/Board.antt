-- The stores of a block that still wait to be settled, kept as the log grows; what a load must return is read off them.
use Prim.Native.Nat.{ℕ}
use mathlib.Core.Bool.{Bool, true, false, cond, not}
use mathlib.Core.List.{List, [], ◌∷◌}
use mathlib.Core.Path.{◌≡◌, refl}
use mathlib.Core.Logic.{◌≢◌}
use lib.Dec.{eqb}
use borrow.Author.Tests.{ne_eqb}
use Rattle.rules.specs.Lists.{keep}
use Rattle.rules.specs.History.{Did, loaded, stored, settles, rejoined, quiet}
use Rattle.rules.proofs.Tests.{test}

-- a store: its card and its value
pub record Write : Type 0 where
  pub card : ℕ
  pub value : ℕ

unfoldable pub not_by : ℕ → Write → Bool
not_by k w = not (eqb w.card k)

-- the stores to b that are neither settled nor struck, newest first
unfoldable pub pending : ℕ → List Did → List Write
pending b [] = []
pending b (loaded k b' v ∷ log) = pending b log
pending b (stored k b' v ∷ log) = cond (eqb b' b) (record { card = k; value = v } ∷ pending b log) (pending b log)
pending b (settles b' ∷ log) = cond (eqb b' b) [] (pending b log)
pending b (rejoined k ∷ log) = keep (not_by k) (pending b log)
pending b (quiet ∷ log) = pending b log

-- the first whose card is not gone, or else d
unfoldable pub pick : (ℕ → Bool) → List Write → ℕ → ℕ
pick gone [] d = d
pick gone (w ∷ ws) d = cond (gone w.card) (pick gone ws d) w.value

-- no card is gone
abbrev pub here : ℕ → Bool
here k = false

-- the value of b at its last settling
unfoldable pub base : ℕ → List Did → ℕ
base b [] = 0
base b (loaded k b' v ∷ log) = base b log
base b (stored k b' v ∷ log) = base b log
base b (settles b' ∷ log) = cond (eqb b' b) (pick here (pending b log) (base b log)) (base b log)
base b (rejoined k ∷ log) = base b log
base b (quiet ∷ log) = base b log

-- the value that a load of b must return
unfoldable pub current : ℕ → List Did → ℕ
current b log = pick here (pending b log) (base b log)

pub pick-keep : (f : ℕ → Bool) (k : ℕ) (ws : List Write) (d : ℕ)
    → pick f (keep (not_by k) ws) d ≡ pick (λ j. cond (eqb j k) true (f j)) ws d
unfolding pick keep not_by
pick-keep f k [] d = refl
pick-keep f k (w ∷ ws) d = test (eqb w.card k)
    (λ e. rw e (pick-keep f k ws d))
    (λ e. rw (e, pick-keep f k ws d))

-- What an event does that touches only block b

pub data Only : ℕ → Did → Type 0 where
  only-stored : {b k v : ℕ} → Only b (stored k b v)
  only-settles : {b : ℕ} → Only b (settles b)
  only-quiet : {b : ℕ} → Only b quiet

-- it is nothing to another block
pub pending-other : (b b' : ℕ) (d : Did) (log : List Did) → Only b d → b ≢ b' → pending b' (d ∷ log) ≡ pending b' log
unfolding pending
pending-other b b' _ log only-stored ne = rw (ne_eqb b b' ne)
pending-other b b' _ log only-settles ne = rw (ne_eqb b b' ne)
pending-other b b' _ log only-quiet ne = refl

pub base-other : (b b' : ℕ) (d : Did) (log : List Did) → Only b d → b ≢ b' → base b' (d ∷ log) ≡ base b' log
unfolding base
base-other b b' _ log only-stored ne = refl
base-other b b' _ log only-settles ne = rw (ne_eqb b b' ne)
base-other b b' _ log only-quiet ne = refl
