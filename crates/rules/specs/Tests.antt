-- Tests that are put together from tests. Nothing here is about the protocol.
use Rattle.std.specs.Prelude.{ℕ, zero, suc, Bool, true, false, cond, ◌&&◌, List, [], ◌∷◌, eqb}

-- where a holds, b holds
infixr 20 ◌⇒◌
abbrev pub ◌⇒◌ : Bool → Bool → Bool
true ⇒ b = b
false ⇒ b = true

-- each test of a list of tests holds; any one of them does
unfoldable pub each : List Bool → Bool
each [] = true
each (t ∷ ts) = t && each ts

unfoldable pub any : List Bool → Bool
any [] = false
any (t ∷ ts) = cond t true (any ts)

-- the test holds of each number below n; of one of them
unfoldable pub all : ℕ → (ℕ → Bool) → Bool
all zero f = true
all (suc n) f = f n && all n f

unfoldable pub some : ℕ → (ℕ → Bool) → Bool
some zero f = false
some (suc n) f = cond (f n) true (some n f)

-- the number is one of the list
unfoldable pub one_of : List ℕ → ℕ → Bool
one_of [] n = false
one_of (m ∷ ms) n = cond (eqb m n) true (one_of ms n)

-- the test holds of each element of the list
module _ {A : Type 0} where
  unfoldable pub all_of : List A → (A → Bool) → Bool
  all_of [] f = true
  all_of (x ∷ xs) f = f x && all_of xs f
