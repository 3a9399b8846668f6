-- Rows laid end to end: a store of some words in one row, and a read from one.
use Prim.Native.Nat.{ℕ, zero, suc, ◌+◌, ◌*◌, ◌≤◌, ◌<◌}
use native.Mathlib.Nat.{mul-le-mul_left, zero-add, suc-add, add-suc, mul-zero, mul-suc, not-suc-le-zero, le_of_suc-le-suc}
use native.Mathlib.Omega.{arith}
use mathlib.Core.List.{List, [], ◌∷◌, ◌++◌}
use mathlib.Core.Path.{◌≡◌, refl, sym, ap, ◌∙◌, fun_ext}
use lib.ListN.{length, get_or, set, length-append, length-set, get_or-append}
use lib.Seq.{sets, set-append_left, get_or-append-add}
use lib.Dec.{eqb}
use borrow.Author.Tests.{eqb-true, eqb-false}
use Rattle.rules.specs.Lists.{replace}
use Rattle.rules.proofs.Tests.{test}
use Rattle.words.specs.Words.{rows}

-- A function with one value changed, by recursion on the place

unfoldable pub upd : {A : Type 0} → (ℕ → A) → ℕ → A → ℕ → A
upd f zero v zero = v
upd f zero v (suc j) = f (suc j)
upd f (suc i) v zero = f zero
upd f (suc i) v (suc j) = upd (λ k. f (suc k)) i v j

upd_same : {A : Type 0} (f : ℕ → A) (i : ℕ) (v : A) → upd f i v i ≡ v
unfolding upd
upd_same f zero v = refl
upd_same f (suc i) v = upd_same (λ k. f (suc k)) i v

upd_other : {A : Type 0} (f : ℕ → A) (i : ℕ) (v : A) (j : ℕ) → (i ≡ j → ⊥) → upd f i v j ≡ f j
unfolding upd
upd_other f zero v zero h = absurd (h refl)
upd_other f zero v (suc j) h = refl
upd_other f (suc i) v zero h = refl
upd_other f (suc i) v (suc j) h = upd_other (λ k. f (suc k)) i v j (λ e. h (ap suc e))

-- it is the rules' replace
pub upd-put : {A : Type 0} (f : ℕ → A) (i : ℕ) (v : A) → upd f i v ≡ replace f i v
unfolding replace
upd-put f i v = fun_ext (λ j. test (eqb i j)
    (λ e. rw e (ap (λ k. upd f i v k) (sym (eqb-true i j e)) ∙ upd_same f i v))
    (λ e. rw e (upd_other f i v j (eqb-false i j e))))

upd-map : {A B : Type 0} (h : A → B) (f : ℕ → A) (i : ℕ) (v : A)
    → ◌≡◌ {A = ℕ → B} (λ j. h (upd f i v j)) (upd (λ j. h (f j)) i (h v))
unfolding upd
upd-map {A} {B} h f i v = fun_ext (λ j. at f i j)
  where
    at : (f : ℕ → A) (i j : ℕ) → h (upd f i v j) ≡ upd (λ j. h (f j)) i (h v) j
    at f zero zero = refl
    at f zero (suc j) = refl
    at f (suc i) zero = refl
    at f (suc i) (suc j) = at (λ k. f (suc k)) i j

-- Stores to the right of a prefix, and within one

set-right : (a l : List ℕ) (i v : ℕ) → set (a ++ l) (length a + i) v ≡ a ++ set l i v
set-right [] l i v = rw zero-add refl
set-right (x ∷ a) l i v = rw suc-add (ap (λ (r : List ℕ). x ∷ r) (set-right a l i v))

sets-right : (a l : List ℕ) (i : ℕ) (vs : List ℕ) → sets (a ++ l) (length a + i) vs ≡ a ++ sets l i vs
sets-right a l i [] = refl
sets-right a l i (v ∷ vs) = rw (set-right, ← add-suc (length a) i) (sets-right a (set l i v) (suc i) vs)

sets-left : (a l : List ℕ) (i : ℕ) (vs : List ℕ) → i + length vs ≤ length a → sets (a ++ l) i vs ≡ sets a i vs ++ l
sets-left a l i [] h = refl
sets-left a l i (v ∷ vs) h =
    rw (set-append_left a l i v (omega arith)) (sets-left (set a i v) l (suc i) vs (simp length-set (omega arith)))

-- Rows

pub length-rows : (m n : ℕ) (f : ℕ → List ℕ) → ((j : ℕ) → length (f j) ≡ m) → length (rows n f) ≡ m * n
unfolding rows
length-rows m zero f w = sym (mul-zero m)
length-rows m (suc n) f w =
    length-append (f zero) (rows n (λ j. f (suc j)))
    ∙ rw (w zero, length-rows m n (λ j. f (suc j)) (λ j. w (suc j)), mul-suc) (omega arith)

-- a store within row i, from its place r
sets_rows : (m n : ℕ) (f : ℕ → List ℕ) → ((j : ℕ) → length (f j) ≡ m) → (i r : ℕ) (vs : List ℕ) → i < n → r + length vs ≤ m
    → sets (rows n f) (m * i + r) vs ≡ rows n (upd f i (sets (f i) r vs))
unfolding rows upd
sets_rows m zero f w i r vs h k = absurd (not-suc-le-zero h)
sets_rows m (suc n) f w zero r vs h k =
    rw (mul-zero, zero-add) (sets-left (f zero) (rows n (λ j. f (suc j))) r vs (omega (arith, w zero)))
sets_rows m (suc n) f w (suc i) r vs h k =
    let e : m * suc i + r ≡ length (f zero) + (m * i + r) = rw (mul-suc, w zero) (omega arith) in
    rw (e, sets-right)
    (ap (λ (t : List ℕ). f zero ++ t) (sets_rows m n (λ j. f (suc j)) (λ j. w (suc j)) i r vs (le_of_suc-le-suc h) k))

get_or_rows : (m n : ℕ) (f : ℕ → List ℕ) → ((j : ℕ) → length (f j) ≡ m) → (i r : ℕ) → i < n → r < m
    → get_or (rows n f) (m * i + r) 0 ≡ get_or (f i) r 0
unfolding rows
get_or_rows m zero f w i r h k = absurd (not-suc-le-zero h)
get_or_rows m (suc n) f w zero r h k =
    rw (mul-zero, zero-add) (get_or-append (f zero) (rows n (λ j. f (suc j))) 0 r (omega (arith, w zero)))
get_or_rows m (suc n) f w (suc i) r h k =
    let e : m * suc i + r ≡ length (f zero) + (m * i + r) = rw (mul-suc, w zero) (omega arith) in
    rw (e, get_or-append-add) (get_or_rows m n (λ j. f (suc j)) (λ j. w (suc j)) i r (le_of_suc-le-suc h) k)

-- rows are the same where each row is
pub rows_ext : (n : ℕ) (f g : ℕ → List ℕ) → ((i : ℕ) → i < n → f i ≡ g i) → rows n f ≡ rows n g
unfolding rows
rows_ext zero f g h = refl
rows_ext (suc n) f g h =
    ap (λ (l : List ℕ). l ++ rows n (λ j. f (suc j))) (h zero (omega arith))
    ∙ ap (λ (l : List ℕ). g zero ++ l) (rows_ext n (λ j. f (suc j)) (λ j. g (suc j)) (λ i k. h (suc i) (omega arith)))

-- what lies within a row lies within the rows
within : (m n i r : ℕ) → i < n → r ≤ m → m * i + r ≤ m * n
within m n i r h k = let t : m * suc i ≤ m * n = mul-le-mul_left m h in let e = mul-suc m i in omega arith

-- A table of items that are m words each, behind the words a and before the words z

module _ {A : Type 0} (m n : ℕ) (row : A → List ℕ) (wide : (x : A) → length (row x) ≡ m) (a z : List ℕ) (g : ℕ → A) where
  -- a store of some words of item i makes it x
  pub table-sets : (i r : ℕ) (vs : List ℕ) (x : A) → i < n → r + length vs ≤ m → sets (row (g i)) r vs ≡ row x
      → sets (a ++ (rows n (λ j. row (g j)) ++ z)) (length a + (m * i + r)) vs ≡ a ++ (rows n (λ j. row (replace g i x j)) ++ z)
  table-sets i r vs x h k e =
      let f : ℕ → List ℕ = λ j. row (g j) in
      let fits = within m n i (r + length vs) h k in
      sets-right a (rows n f ++ z) (m * i + r) vs
      ∙ ap (λ (l : List ℕ). a ++ l)
      (sets-left (rows n f) z (m * i + r) vs (omega (arith, length-rows m n f (λ j. wide (g j))))
      ∙ ap (λ (l : List ℕ). l ++ z)
      (sets_rows m n f (λ j. wide (g j)) i r vs h k
      ∙ ap (λ (l : List ℕ). rows n (upd f i l)) e
      ∙ ap (rows n) (sym (upd-map row g i x))
      ∙ ap (λ (q : ℕ → A). rows n (λ j. row (q j))) (upd-put g i x)))

  -- a read of word r of item i
  pub table-get_or : (i r : ℕ) → i < n → r < m → get_or (a ++ (rows n (λ j. row (g j)) ++ z)) (length a + (m * i + r)) 0 ≡ get_or (row (g i)) r 0
  table-get_or i r h k =
      let f : ℕ → List ℕ = λ j. row (g j) in
      get_or-append-add a (rows n f ++ z) (m * i + r) 0
      ∙ get_or-append (rows n f) z 0 (m * i + r) (let t = within m n i (suc r) h k in omega (arith, length-rows m n f (λ j. wide (g j))))
      ∙ get_or_rows m n f (λ j. wide (g j)) i r h k
