-- The places of the line or of the pool: one more at the tail, and one that leaves while the later ones close up.
-- What holds of both is stated once, over the kind of item, the width of its row and the words around the places.
use Prim.Native.Nat.{ℕ, zero, suc, ◌+◌, ◌-◌, ◌*◌, ◌≤◌, ◌<◌}
use native.Mathlib.Nat.{add-zero, zero-add, suc-add, mul-suc, mul-add, mul-le-mul_left}
use native.Mathlib.Numerals.{add-one}
use native.Mathlib.Omega.{arith}
use mathlib.Core.Bool.{cond}
use mathlib.Core.List.{List, [], ◌∷◌, ◌++◌, append_assoc}
use mathlib.Core.Path.{◌≡◌, refl, sym, ap, ap₂, ◌∙◌, fun_ext}
use lib.ListN.{length, get_or, set, take, drop, length-append, length-set, take-append-drop, get_or-eq_default}
use lib.Seq.{paste, take_at, drop_at, drop-cons, take-suc-set, drop-set-lt}
use lib.Dec.{ltb}
use Rattle.std.specs.List.{copy_within}
use borrow.Author.Tests.{ltb-true, ltb-false, lt-ltb, le-ltb}
use Rattle.rules.specs.Lists.{replace, removed}
use Rattle.rules.proofs.Tests.{test}
use Rattle.rules.proofs.Lists.{replace-cases}
use Rattle.words.specs.Words.{rows}
use Rattle.words.specs.Inner.Parts.{closing}
use Rattle.words.proofs.Rows.{upd, upd-put, length-rows, rows_ext}

-- The places of a list

module _ {A : Type 0} (d : A) where
  -- past its end they are unused
  abbrev pub places : List A → ℕ → A
  places l i = get_or l i d

  -- with one more at the tail
  snoc-upd : (x : A) (l : List A) (i : ℕ) → places (l ++ x ∷ []) i ≡ upd (places l) (length l) x i
  unfolding upd
  snoc-upd x [] zero = refl
  snoc-upd x [] (suc i) = refl
  snoc-upd x (y ∷ l) zero = refl
  snoc-upd x (y ∷ l) (suc i) = snoc-upd x l i

  pub snoc-places : (x : A) (l : List A) → places (l ++ x ∷ []) ≡ replace (places l) (length l) x
  snoc-places x l = fun_ext (λ i. snoc-upd x l i) ∙ upd-put (places l) (length l) x

  -- without one
  pub removed-below : (l : List A) (a j : ℕ) → j < a → places (removed a l) j ≡ places l j
  unfolding removed
  removed-below [] zero j h = refl
  removed-below [] (suc a) j h = refl
  removed-below (x ∷ l) zero j h = absurd (omega arith)
  removed-below (x ∷ l) (suc a) zero h = refl
  removed-below (x ∷ l) (suc a) (suc j) h = removed-below l a j (omega arith)

  pub removed-from : (l : List A) (a j : ℕ) → a ≤ j → places (removed a l) j ≡ places l (suc j)
  unfolding removed
  removed-from [] zero j h = refl
  removed-from [] (suc a) j h = refl
  removed-from (x ∷ l) zero j h = refl
  removed-from (x ∷ l) (suc a) zero h = absurd (omega arith)
  removed-from (x ∷ l) (suc a) (suc j) h = removed-from l a j (omega arith)

pub length_removed : {A : Type 0} (l : List A) (a t : ℕ) → length l ≡ suc (a + t) → length (removed a l) ≡ a + t
unfolding removed
length_removed [] a t h = absurd (omega arith)
length_removed (x ∷ l) zero t h = omega arith
length_removed (x ∷ l) (suc a) t h = let e = length_removed l a t (omega arith) in omega arith

module _ {A : Type 0} where
  -- the places from a on, t of them, each taken by the one after it
  unfoldable pub pulled : (ℕ → A) → ℕ → ℕ → ℕ → A
  pulled f a t j = cond (ltb j a) (f j) (cond (ltb j (a + t)) (f (suc j)) (f j))

  -- once they are taken and the last is cleared, the element is gone
  pub pulled-removed : (d : A) (l : List A) (a t : ℕ) → length l ≡ suc (a + t)
      → replace (pulled (places d l) a t) (a + t) d ≡ places d (removed a l)
  unfolding pulled
  pulled-removed d l a t h =
      let f = places d l in
      fun_ext (λ j. replace-cases (λ y. y ≡ places d (removed a l) j) (pulled f a t) (a + t) d j
      (λ e. sym (removed-from d l a j (omega arith) ∙ get_or-eq_default l d (omega arith)))
      (λ ne. test (ltb j a)
      (λ p. rw p (sym (removed-below d l a j (ltb-true j a p))))
      (λ p. let from = ltb-false j a p in test (ltb j (a + t))
      (λ q. rw (p, q) (sym (removed-from d l a j from)))
      (λ q. let past = ltb-false j (a + t) q in
      rw (p, q) (get_or-eq_default l d (omega arith) ∙ sym (removed-from d l a j from ∙ get_or-eq_default l d (omega arith)))))))

-- n words from p on, each taken by the one m further
unfoldable closed_up : List ℕ → ℕ → ℕ → ℕ → List ℕ
closed_up w p n m = take p w ++ (take n (drop (p + m) w) ++ drop (p + n) w)

-- so it is done word by word, as code does
closing-closed : (n : ℕ) (w : List ℕ) (p m : ℕ) → p + n + m ≤ length w → closing w p n m ≡ closed_up w p n m
unfolding closing closed_up
closing-closed zero w p m h = sym (take-append-drop p w) ∙ ap (λ q. take p w ++ drop q w) (sym (add-zero p))
closing-closed (suc n) w p m h =
    let x = get_or w (p + m) 0 in
    let v = set w p x in
    let next : p + 1 + m ≡ suc (p + m) = omega arith in
    let end : p + 1 + n ≡ p + suc n = omega arith in
    let a : take (p + 1) v ≡ take p w ++ (x ∷ []) = ap (λ q. take q v) (add-one p) ∙ take-suc-set w p x (omega arith) in
    let b : drop (p + 1 + m) v ≡ drop (suc (p + m)) w = drop-set-lt (p + 1 + m) w p x (omega arith) ∙ ap (λ q. drop q w) next in
    let c : drop (p + 1 + n) v ≡ drop (p + suc n) w = drop-set-lt (p + 1 + n) w p x (omega arith) ∙ ap (λ q. drop q w) end in
    closing-closed n v (p + 1) m (simp length-set (omega arith))
    ∙ rw (a, b, c) (append_assoc (take p w) (x ∷ []) _
    ∙ sym (ap (λ (l : List ℕ). take p w ++ (take (suc n) l ++ drop (p + suc n) w)) (drop-cons w (p + m) 0 (omega arith))))

-- Rows, parted

rows-part : (i k : ℕ) (f : ℕ → List ℕ) → rows (i + k) f ≡ rows i f ++ rows k (λ j. f (i + j))
unfolding rows
rows-part zero k f = ap (λ n. rows n f) (zero-add k) ∙ rows_ext k f (λ j. f (zero + j)) (λ j _. ap f (sym (zero-add j)))
rows-part (suc i) k f =
    ap (λ n. rows n f) (suc-add i k)
    ∙ ap (λ (l : List ℕ). f zero ++ l) (rows-part i k (λ j. f (suc j))
    ∙ ap (λ (l : List ℕ). rows i (λ j. f (suc j)) ++ l) (rows_ext k _ _ (λ j _. ap f (sym (suc-add i j)))))
    ∙ sym (append_assoc (f zero) (rows i (λ j. f (suc j))) (rows k (λ j. f (suc i + j))))

-- A table of items that are m words each, behind the words a and before the words z

module _ {A : Type 0} (m : ℕ) (row : A → List ℕ) (wide : (x : A) → length (row x) ≡ m) (a z : List ℕ) where
  abbrev pub table : ℕ → (ℕ → A) → List ℕ
  table n g = a ++ (rows n (λ j. row (g j)) ++ z)

  long : (n : ℕ) (g : ℕ → A) → length (rows n (λ j. row (g j))) ≡ m * n
  long n g = length-rows m n (λ j. row (g j)) (λ j. wide (g j))

  -- its words from item i on
  abbrev from : ℕ → (ℕ → A) → ℕ → List ℕ
  from k g i = rows k (λ j. row (g (i + j)))

  parted : (i k : ℕ) (g : ℕ → A) → table (i + k) g ≡ (a ++ rows i (λ j. row (g j))) ++ (from k g i ++ z)
  parted i k g =
      ap (λ (l : List ℕ). a ++ (l ++ z)) (rows-part i k (λ j. row (g j)))
      ∙ ap (λ (l : List ℕ). a ++ l) (append_assoc (rows i (λ j. row (g j))) (from k g i) z)
      ∙ sym (append_assoc a (rows i (λ j. row (g j))) (from k g i ++ z))

  before : (i : ℕ) (g : ℕ → A) → length (a ++ rows i (λ j. row (g j))) ≡ length a + m * i
  before i g = length-append a (rows i (λ j. row (g j))) ∙ ap (λ n. length a + n) (long i g)

  take-table : (i k : ℕ) (g : ℕ → A) → take (length a + m * i) (table (i + k) g) ≡ a ++ rows i (λ j. row (g j))
  take-table i k g = ap (take (length a + m * i)) (parted i k g)
      ∙ take_at (a ++ rows i (λ j. row (g j))) (from k g i ++ z) (length a + m * i) (before i g)

  drop-table : (i k : ℕ) (g : ℕ → A) → drop (length a + m * i) (table (i + k) g) ≡ from k g i ++ z
  drop-table i k g = ap (drop (length a + m * i)) (parted i k g)
      ∙ drop_at (a ++ rows i (λ j. row (g j))) (from k g i ++ z) (length a + m * i) (before i g)

  -- the first t items from i on
  take-from : (t u i : ℕ) (g : ℕ → A) → take (m * t) (from (t + u) g i ++ z) ≡ from t g i
  take-from t u i g =
      ap (λ (l : List ℕ). take (m * t) (l ++ z)) (rows-part t u (λ j. row (g (i + j))))
      ∙ ap (take (m * t)) (append_assoc (from t g i) (rows u (λ j. row (g (i + (t + j))))) z)
      ∙ take_at (from t g i) _ (m * t) (length-rows m t (λ j. row (g (i + j))) (λ j. wide (g (i + j))))

  -- t items from i on, each taken by the one after it
  table-closed : (n i t : ℕ) (g : ℕ → A) → i + t < n
      → closed_up (table n g) (length a + m * i) (m * t) m ≡ table n (pulled g i t)
  unfolding closed_up pulled
  table-closed n i t g h =
      let u = n - (i + t) - 1 in
      let first = a ++ rows i (λ j. row (g j)) in
      let size : n ≡ i + (t + suc u) = omega arith in
      let later : n ≡ suc i + (t + u) = omega arith in
      let last : n ≡ i + t + suc u = omega arith in
      let to : length a + m * i + m * t ≡ length a + m * (i + t) = rw (mul-add m i t) (omega arith) in
      let next : length a + m * i + m ≡ length a + m * suc i = rw (mul-suc m i) (omega arith) in
      ap₂ (λ (l r : List ℕ). l ++ (r ++ drop (length a + m * i + m * t) (table n g)))
      (ap (λ k. take (length a + m * i) (table k g)) size ∙ take-table i (t + suc u) g)
      (ap (λ q. take (m * t) (drop q (table n g))) next
      ∙ ap (λ k. take (m * t) (drop (length a + m * suc i) (table k g))) later
      ∙ ap (take (m * t)) (drop-table (suc i) (t + u) g) ∙ take-from t u (suc i) g)
      ∙ ap (λ (r : List ℕ). first ++ (from t g (suc i) ++ r))
      (ap₂ (λ (q k : ℕ). drop q (table k g)) to last ∙ drop-table (i + t) (suc u) g)
      ∙ sym (ap (λ k. table k (pulled g i t)) size ∙ parted i (t + suc u) (pulled g i t)
      ∙ ap₂ (λ (l r : List ℕ). (a ++ l) ++ (r ++ z)) (low i t g) (rows-part t (suc u) (λ j. row (pulled g i t (i + j))))
      ∙ ap (λ (l : List ℕ). first ++ l) (append_assoc (from t (pulled g i t) i) (rows (suc u) (λ j. row (pulled g i t (i + (t + j))))) z)
      ∙ ap₂ (λ (l r : List ℕ). first ++ (l ++ (r ++ z))) (mid i t g) (high i t (suc u) g))
    where
      low : (i t : ℕ) (g : ℕ → A) → rows i (λ j. row (pulled g i t j)) ≡ rows i (λ j. row (g j))
      low i t g = rows_ext i _ _ (λ j l. ap row (rw (lt-ltb j i l)))

      mid : (i t : ℕ) (g : ℕ → A) → from t (pulled g i t) i ≡ from t g (suc i)
      mid i t g = rows_ext t _ _ (λ j l. ap row (rw (le-ltb (i + j) i (omega arith), lt-ltb (i + j) (i + t) (omega arith)) (ap g (sym (suc-add i j)))))

      high : (i t k : ℕ) (g : ℕ → A) → rows k (λ j. row (pulled g i t (i + (t + j)))) ≡ from k g (i + t)
      high i t k g = rows_ext k _ _ (λ j _. ap row (rw (le-ltb (i + (t + j)) i (omega arith), le-ltb (i + (t + j)) (i + t) (omega arith))
          (ap g (omega arith))))

  long-table : (n : ℕ) (g : ℕ → A) → length (table n g) ≡ length a + (m * n + length z)
  long-table n g = length-append a (rows n (λ j. row (g j)) ++ z)
      ∙ ap (λ k. length a + k) (length-append (rows n (λ j. row (g j))) z ∙ ap (λ k. k + length z) (long n g))

  pub table-closing : (n i t : ℕ) (g : ℕ → A) → i + t < n → closing (table n g) (length a + m * i) (m * t) m ≡ table n (pulled g i t)
  table-closing n i t g h =
      let fits : m * i + m * t + m ≤ m * n
      = let k : m * suc (i + t) ≤ m * n = mul-le-mul_left m h in let e = mul-suc m (i + t) in let e' = mul-add m i t in omega arith in
      closing-closed (m * t) (table n g) (length a + m * i) m (omega (arith, long-table n g)) ∙ table-closed n i t g h

-- The words as a function of how many places are used and of what stands in each

module _ {A : Type 0} (d : A) (words : ℕ → (ℕ → A) → List ℕ) (header room : ℕ) (store : List ℕ → ℕ → A → List ℕ)
    (store-law : (n : ℕ) (f : ℕ → A) (i : ℕ) (x : A) → i < room → store (words n f) i x ≡ words n (replace f i x))
    (count_law : (n m : ℕ) (f : ℕ → A) → set (words n f) header m ≡ words m f) where
  -- one more at the tail, where n are there
  pub pushed : (l : List A) (x : A) (n : ℕ) (w w₁ w₂ : List ℕ) → n ≡ length l → n < room → w ≡ words (length l) (places d l)
      → w₁ ≡ store w n x → w₂ ≡ set w₁ header (n + 1)
      → w₂ ≡ words (length (l ++ x ∷ [])) (places d (l ++ x ∷ []))
  pushed l x n w w₁ w₂ is h e e₁ e₂ =
      let f = replace (places d l) (length l) x in
      let stored : w₁ ≡ words (length l) f
      = e₁ ∙ ap₂ (λ (v : List ℕ) (k : ℕ). store v k x) e is ∙ store-law (length l) (places d l) (length l) x (rw (← is) h) in
      e₂ ∙ ap₂ (λ (v : List ℕ) (k : ℕ). set v header (k + 1)) stored is ∙ count_law (length l) (length l + 1) f
      ∙ ap (λ k. words k f) (sym (length-append l (x ∷ [])))
      ∙ ap (words (length (l ++ x ∷ []))) (sym (snoc-places d x l))

  -- item a leaves, the later ones close up to the last place, z, and that is cleared
  module _ (close : List ℕ → ℕ → ℕ → List ℕ)
      (close-law : (n : ℕ) (f : ℕ → A) (a t : ℕ) → a + t < room → close (words n f) a (a + t) ≡ words n (pulled f a t)) where
    pub left : (l : List A) (a z : ℕ) (w w₁ w₂ w₃ : List ℕ) → z + 1 ≡ length l → a ≤ z → z < room → w ≡ words (length l) (places d l)
        → w₁ ≡ close w a z → w₂ ≡ store w₁ z d → w₃ ≡ set w₂ header z
        → w₃ ≡ words (length (removed a l)) (places d (removed a l))
    left l a z w w₁ w₂ w₃ h le k e e₁ e₂ e₃ =
        let n = length l in
        let f = places d l in
        let t = z - a in
        let is : z ≡ a + t = omega arith in
        let size : n ≡ suc (a + t) = omega arith in
        let shut : w₁ ≡ words n (pulled f a t) = e₁ ∙ ap₂ (λ (v : List ℕ) (q : ℕ). close v a q) e is ∙ close-law n f a t (omega arith) in
        let clear : w₂ ≡ words n (replace (pulled f a t) (a + t) d)
        = e₂ ∙ ap₂ (λ (v : List ℕ) (q : ℕ). store v q d) shut is ∙ store-law n (pulled f a t) (a + t) d (omega arith) in
        e₃ ∙ ap₂ (λ (v : List ℕ) (q : ℕ). set v header q) clear is ∙ count_law n (a + t) (replace (pulled f a t) (a + t) d)
        ∙ ap (words (a + t)) (pulled-removed d l a t size)
        ∙ ap (λ q. words q (places d (removed a l))) (sym (length_removed l a t size))

-- What `copy_within` leaves

pub closing-copied : (w : List ℕ) (p z m : ℕ) → p ≤ z → z + m ≤ length w → copy_within w (p + m) (z + m) p ≡ closing w p (z - p) m
unfolding closed_up
closing-copied w p z m le h =
    let n : z + m - (p + m) ≡ z - p = omega arith in
    ap (paste w p (drop (p + m) w)) n ∙ append_assoc (take p w) (take (z - p) (drop (p + m) w)) (drop (p + (z - p)) w)
    ∙ sym (closing-closed (z - p) w p m (omega arith))
