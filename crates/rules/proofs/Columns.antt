-- A field of the constant array's rows is a column of the table: one test of all states, and one of what is no state.
use Prim.Native.Nat.{ℕ, zero, suc}
use mathlib.Core.List.{List, [], ◌∷◌}
use mathlib.Core.Path.{◌≡◌, refl}
use mathlib.Core.Logic.{◌≢◌}
use lib.ListN.{get_or}
use Rattle.rules.specs.Numbers.{gets, getx, putx, states}

-- the number that is k above n
abbrev pub above : ℕ → ℕ → ℕ
above zero k = k
above (suc n) k = suc (above n k)

module _ {A : Type 0} where
  -- f at the first n numbers
  abbrev pub first : ℕ → (ℕ → A) → List A
  first zero f = []
  first (suc n) f = f zero ∷ first n (λ s. f (suc s))

  agree : (n : ℕ) (f g : ℕ → A) → first n f ≡ first n g → ((k : ℕ) → f (above n k) ≡ g (above n k)) → (s : ℕ) → f s ≡ g s
  agree zero f g e b s = b s
  agree (suc n) f g e b zero = cc
  agree (suc n) f g e b (suc s) = agree n (λ s. f (suc s)) (λ s. g (suc s)) (cc) b s

  -- two functions are one that are one at each state and above the last
  pub each-state : (f g : ℕ → A) → first states f ≡ first states g → ((k : ℕ) → f (above states k) ≡ g (above states k)) → (s : ℕ) → f s ≡ g s
  each-state = agree states

  -- a list by kinds has nothing at a kind that is none
  pub unknown_kind : (d x y z : A) (kind : ℕ) → kind ≢ gets → kind ≢ getx → kind ≢ putx → get_or (d ∷ x ∷ y ∷ z ∷ []) kind d ≡ d
  unknown_kind d x y z zero p q r = refl
  unknown_kind d x y z (suc zero) p q r = absurd (p refl)
  unknown_kind d x y z (suc (suc zero)) p q r = absurd (q refl)
  unknown_kind d x y z (suc (suc (suc zero))) p q r = absurd (r refl)
  unknown_kind d x y z (suc (suc (suc (suc kind)))) p q r = refl
