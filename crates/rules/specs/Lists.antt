-- Places of a function and of a list. Nothing here is about the protocol.
use Rattle.std.specs.Prelude.{ℕ, suc, Bool, true, false, cond, ◌&&◌, List, [], ◌∷◌, ◌++◌, take, drop, eqb}

module _ {A : Type 0} where
  -- f with x at place i
  unfoldable pub replace : (ℕ → A) → ℕ → A → ℕ → A
  replace f i x j = cond (eqb i j) x (f j)

  -- the list without the element at place i: later ones close up
  unfoldable pub removed : ℕ → List A → List A
  removed i xs = take i xs ++ drop (suc i) xs

  -- the elements that pass the test: the rest close up
  unfoldable pub keep : (A → Bool) → List A → List A
  keep f [] = []
  keep f (x ∷ xs) = cond (f x) (x ∷ keep f xs) (keep f xs)

  -- P of each element
  abbrev pub All : (A → Type 0) → List A → Type 0
  All P [] = Unit {0}
  All P (x ∷ xs) = P x × All P xs

-- two lists of numbers are the same
unfoldable pub same : List ℕ → List ℕ → Bool
same [] [] = true
same [] (y ∷ ys) = false
same (x ∷ xs) [] = false
same (x ∷ xs) (y ∷ ys) = eqb x y && same xs ys
