-- Laws of places of a function and of a list, and of what holds of each element.
use Prim.Native.Nat.{ℕ, zero, suc, ◌≤◌, ◌<◌}
use native.Mathlib.Omega.{arith}
use mathlib.Core.Bool.{Bool, true, true≢false}
use mathlib.Core.List.{List, [], ◌∷◌, ◌++◌, map}
use mathlib.Core.Path.{◌≡◌, refl, sym, ap, fun_ext}
use mathlib.Core.Logic.{◌≢◌}
use lib.ListN.{length, get_or, drop}
use lib.Dec.{eqb}
use borrow.Author.Tests.{eqb-true, eqb-false, eq-eqb}
use Rattle.rules.specs.Lists.{replace, removed, keep, All, same}
use Rattle.rules.proofs.Tests.{clash, test, cond_cases, and_l, and_r}

module _ {A : Type 0} where
  pub replace-cases : (P : A → Type 0) (f : ℕ → A) (i : ℕ) (x : A) (j : ℕ) → (i ≡ j → P x) → (i ≢ j → P (f j)) → P (replace f i x j)
  unfolding replace
  replace-cases P f i x j g h = cond_cases P (eqb i j) x (f j) (λ e. g (eqb-true i j e)) (λ e. h (eqb-false i j e))

  pub replace-same : (f : ℕ → A) (i : ℕ) (x : A) → replace f i x i ≡ x
  unfolding replace
  replace-same f i x = rw (eq-eqb i i refl)

  -- what is there already, put in its place
  pub replace-own : (f : ℕ → A) (i : ℕ) → replace f i (f i) ≡ f
  replace-own f i = fun_ext (λ j. replace-cases (λ y. y ≡ f j) f i (f i) j (λ e. ap f e) (λ _. refl))

  -- of two that are put in one place the later stands
  pub replace-twice : (f : ℕ → A) (i : ℕ) (x y : A) → replace (replace f i x) i y ≡ replace f i y
  unfolding replace
  replace-twice f i x y = fun_ext (λ j. test (eqb i j) (λ e. rw e) (λ e. rw e))

  pub All-map : {P Q : A → Type 0} → ((x : A) → P x → Q x) → (xs : List A) → All P xs → All Q xs
  All-map f [] h = tt
  All-map f (x ∷ xs) h = (f x h.0, All-map f xs h.1)

  pub All-map₂ : {P Q R : A → Type 0} → ((x : A) → P x → Q x → R x) → (xs : List A) → All P xs → All Q xs → All R xs
  All-map₂ f [] h k = tt
  All-map₂ f (x ∷ xs) h k = (f x h.0 k.0, All-map₂ f xs h.1 k.1)

  pub All-append : (P : A → Type 0) (xs ys : List A) → All P xs → All P ys → All P (xs ++ ys)
  All-append P [] ys h k = k
  All-append P (x ∷ xs) ys h k = (h.0, All-append P xs ys h.1 k)

  pub All-removed : (P : A → Type 0) (i : ℕ) (xs : List A) → All P xs → All P (removed i xs)
  unfolding removed
  All-removed P zero [] h = tt
  All-removed P (suc i) [] h = tt
  All-removed P zero (x ∷ xs) h = h.1
  All-removed P (suc i) (x ∷ xs) h = (h.0, All-removed P i xs h.1)

  pub All-drop : (P : A → Type 0) (i : ℕ) (xs : List A) → All P xs → All P (drop i xs)
  All-drop P zero xs h = h
  All-drop P (suc i) [] h = tt
  All-drop P (suc i) (x ∷ xs) h = All-drop P i xs h.1

  pub All-at : (P : A → Type 0) (xs : List A) (i : ℕ) (d : A) → i < length xs → All P xs → P (get_or xs i d)
  All-at P [] i d l h = absurd (omega arith)
  All-at P (x ∷ xs) zero d l h = h.0
  All-at P (x ∷ xs) (suc i) d l h = All-at P xs i d (omega arith) h.1

  pub All-keep : (P : A → Type 0) (f : A → Bool) (xs : List A) → All P xs → All (λ x. P x × (f x ≡ true)) (keep f xs)
  unfolding keep
  All-keep P f [] h = tt
  All-keep P f (x ∷ xs) h = cond_cases (All (λ y. P y × (f y ≡ true))) (f x) (x ∷ keep f xs) (keep f xs)
      (λ e. ((h.0, e), All-keep P f xs h.1)) (λ e. All-keep P f xs h.1)

  pub keep_all : (P : A → Type 0) (f : A → Bool) (xs : List A) → All P (keep f xs) → All (λ x. f x ≡ true → P x) xs
  unfolding keep
  keep_all P f [] h = tt
  keep_all P f (x ∷ xs) h = test (f x)
      (λ e. let h' = rw e at h in ((λ _. h'.0), keep_all P f xs h'.1))
      (λ e. ((λ e'. absurd (clash e' e)), keep_all P f xs (rw e at h)))

  pub all_of : (P : A → Type 0) → ((x : A) → P x) → (xs : List A) → All P xs
  all_of P f [] = tt
  all_of P f (x ∷ xs) = (f x, all_of P f xs)

  -- each element is changed by g
  pub All-each : (P Q : A → Type 0) (g : A → A) → ((x : A) → P x → Q (g x)) → (xs : List A) → All P xs → All Q (map g xs)
  All-each P Q g f [] h = tt
  All-each P Q g f (x ∷ xs) h = (f x h.0, All-each P Q g f xs h.1)

  pub removed-short : (i : ℕ) (xs : List A) → length (removed i xs) ≤ length xs
  unfolding removed
  removed-short zero [] = omega arith
  removed-short (suc i) [] = omega arith
  removed-short zero (x ∷ xs) = omega arith
  removed-short (suc i) (x ∷ xs) = let h = removed-short i xs in omega arith

  pub keep-short : (f : A → Bool) (xs : List A) → length (keep f xs) ≤ length xs
  unfolding keep
  keep-short f [] = omega arith
  keep-short f (x ∷ xs) = let h = keep-short f xs in
      cond_cases (λ l. length l ≤ suc (length xs)) (f x) (x ∷ keep f xs) (keep f xs) (λ _. omega arith) (λ _. omega arith)

-- Sameness

pub same-eq : (xs ys : List ℕ) → same xs ys ≡ true → xs ≡ ys
unfolding same
same-eq [] [] h = refl
same-eq [] (y ∷ ys) h = absurd (true≢false (sym h))
same-eq (x ∷ xs) [] h = absurd (true≢false (sym h))
same-eq (x ∷ xs) (y ∷ ys) h = rw (eqb-true x y (and_l (eqb x y) (same xs ys) h), same-eq xs ys (and_r (eqb x y) (same xs ys) h))

pub same_self : (xs : List ℕ) → same xs xs ≡ true
unfolding same
same_self [] = refl
same_self (x ∷ xs) = rw (eq-eqb x x refl) (same_self xs)
