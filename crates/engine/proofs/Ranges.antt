-- A loop over a range that tests each number of it.
use Rattle.std.proofs.Common.{◌≡◌, ℕ, ◌+◌, Bool, true, ◌&&◌, refl, add-one}
use mathlib.Core.Bool.{and_comm}
use Rattle.rules.specs.Tests.{all}

-- before its first turn, one turn on, and after the last
pub all_none : (f : ℕ → Bool) → true ≡ all 0 f
unfolding all
all_none f = refl

module _ (f : ℕ → Bool) (i : ℕ) (ok : Bool) (e : ok ≡ all i f) where
  pub all_more : (r : Bool) → r ≡ f i → (ok && r) ≡ all (i + 1) f
  unfolding all
  all_more r h = rw (add-one, e, h) (and_comm (all i f) (f i))

  pub all_done : (n : ℕ) → i ≡ n → ok ≡ all n f
  all_done n h = rw (← h) e
