-- Masks: their members, which of them name only cards that are there, and how code computes them.
use Prim.Native.Nat.{ℕ, zero, suc, ◌+◌, ◌-◌, ◌*◌, ◌/◌, ◌%◌, ◌^◌, ◌≤◌, ◌<◌}
use native.Mathlib.Numerals.{one-add}
use native.Mathlib.Omega.{arith}
use native.Mathlib.Nat.{div_self, div-eq_of_lt, mod-eq_of_lt, mod-one, one-mul, pow-suc}
use mathlib.Core.Bool.{Bool, true, false, not, ◌&&◌, ◌||◌}
use mathlib.Core.Path.{◌≡◌, refl, sym, ap, subst, ◌∙◌}
use mathlib.Core.Logic.{◌≢◌}
use lib.Dec.{ltb, leb, eqb}
use lib.Pow.{mod-pow-add, pow_pos, pow-lt, pow_mono, pow-add, shl-shr, ones_lt, ones_split, high}
use lib.Bits.{and_mask, bit_and, bit_or, bit_xor, or_shr, or_mod, and_shr, and_mod, xor_shr, xor_mod, or_lt, and_lt, xor_lt}
use borrow.Author.Tests.{eqb-true, eqb-false, ne_eqb, ltb-true, ltb-false, lt-ltb, le-leb, lt-leb}
use Rattle.rules.specs.Tests.{all}
use Rattle.rules.specs.Masks.{has, only, every, union, without, inside}
use Rattle.rules.proofs.Tests.{test, or-i}

-- a digit is 0 or 1
digit : (P : ℕ → Type 0) → P 0 → P 1 → (n : ℕ) → P (n % 2)
digit P p q n = test (eqb (n % 2) 0)
    (λ e. subst P (sym (eqb-true (n % 2) 0 e)) p)
    (λ e. let d = eqb-false (n % 2) 0 e in let one : n % 2 ≡ 1 = omega arith in subst P (sym one) q)

pub has-union : (a b k : ℕ) → has (union a b) k ≡ (has a k || has b k)
unfolding has union
has-union a b k = rw (or_shr a b k) (rw (or_mod (a / 2 ^ k) (b / 2 ^ k) 1)
    (digit (λ x. eqb (bit_or x (b / 2 ^ k % 2)) 1 ≡ (eqb x 1 || eqb (b / 2 ^ k % 2) 1))
    (digit (λ y. eqb (bit_or 0 y) 1 ≡ (eqb 0 1 || eqb y 1)) refl refl (b / 2 ^ k))
    (digit (λ y. eqb (bit_or 1 y) 1 ≡ (eqb 1 1 || eqb y 1)) refl refl (b / 2 ^ k)) (a / 2 ^ k)))

pub has-without : (a b k : ℕ) → has (without a b) k ≡ (has a k && not (has b k))
unfolding has without
has-without a b k = rw (xor_shr a (bit_and a b) k) (rw (and_shr a b k) (rw (xor_mod (a / 2 ^ k) (bit_and (a / 2 ^ k) (b / 2 ^ k)) 1)
    (rw (and_mod (a / 2 ^ k) (b / 2 ^ k) 1)
    (digit (λ x. eqb (bit_xor x (bit_and x (b / 2 ^ k % 2))) 1 ≡ (eqb x 1 && not (eqb (b / 2 ^ k % 2) 1)))
    (digit (λ y. eqb (bit_xor 0 (bit_and 0 y)) 1 ≡ (eqb 0 1 && not (eqb y 1))) refl refl (b / 2 ^ k))
    (digit (λ y. eqb (bit_xor 1 (bit_and 1 y)) 1 ≡ (eqb 1 1 && not (eqb y 1))) refl refl (b / 2 ^ k)) (a / 2 ^ k)))))

pub has-none : (k : ℕ) → has 0 k ≡ false
unfolding has
has-none k = rw (div-eq_of_lt (pow_pos k))

pub has-only : (k : ℕ) → has (only k) k ≡ true
unfolding has only
has-only k = rw (div_self (pow_pos k))

pub has-only-other : (q k : ℕ) → q ≢ k → has (only q) k ≡ false
unfolding has only
has-only-other q k d = test (ltb q k)
    (λ e. rw (div-eq_of_lt (pow-lt (ltb-true q k e))))
    (λ e. let h = ltb-false q k e in
    let n = q - k - 1 in
    let g : q ≡ suc n + k = omega arith in
    let even : 2 ^ n * 2 % 2 ≡ 0 = omega arith in
    rw g (rw (pow-add 2 (suc n) k) (rw (shl-shr (2 ^ suc n) k) (rw (pow-suc 2 n) (rw even)))))

pub has-union-l : (a b k : ℕ) → has a k ≡ true → has (union a b) k ≡ true
has-union-l a b k h = rw (has-union a b k, h)

pub has-union-r : (a b k : ℕ) → has b k ≡ true → has (union a b) k ≡ true
has-union-r a b k h = rw (has-union a b k, h) (or-i {a = has a k} (λ _. refl))

pub has-without-other : (a q k : ℕ) → q ≢ k → has a k ≡ true → has (without a (only q)) k ≡ true
has-without-other a q k d h = rw (has-without a (only q) k, h, has-only-other q k d)

pub has-every : (n k : ℕ) → k < n → has (every n) k ≡ true
unfolding has every
has-every n k l =
    let m = n - k - 1 in
    let e : n ≡ suc m + k = omega arith in
    let p = pow_pos m in
    let odd : (2 ^ suc m - 1) % 2 ≡ 1 = omega arith in
    rw e (rw (ones_split (suc m) k) (rw (high (2 ^ suc m - 1) k (ones_lt k)) (rw odd)))

-- Masks of the cards that are there

pub only-inside : (n k : ℕ) → k < n → inside n (only k) ≡ true
unfolding inside only
only-inside n k l = lt-ltb (2 ^ k) (2 ^ n) (pow-lt l)

pub union-inside : (n a b : ℕ) → inside n a ≡ true → inside n b ≡ true → inside n (union a b) ≡ true
unfolding inside union
union-inside n a b p q = lt-ltb (bit_or a b) (2 ^ n) (or_lt n a b (ltb-true a (2 ^ n) p) (ltb-true b (2 ^ n) q))

pub without-inside : (n a b : ℕ) → inside n a ≡ true → inside n b ≡ true → inside n (without a b) ≡ true
unfolding inside without
without-inside n a b p q =
    let p' = ltb-true a (2 ^ n) p in
    lt-ltb (bit_xor a (bit_and a b)) (2 ^ n) (xor_lt n a (bit_and a b) p' (and_lt n a b p' (ltb-true b (2 ^ n) q)))

pub every-inside : (n : ℕ) → inside n (every n) ≡ true
unfolding inside every
every-inside n = lt-ltb (2 ^ n - 1) (2 ^ n) (ones_lt n)

pub none_inside : (n : ℕ) → inside n 0 ≡ true
unfolding inside
none_inside n = lt-ltb 0 (2 ^ n) (pow_pos n)

-- As code computes them, where a number has w bits

shifted : (w k : ℕ) → k < w → 1 * 2 ^ k % 2 ^ w ≡ 2 ^ k
shifted w k l = ap (λ n. n % 2 ^ w) (one-mul (2 ^ k)) ∙ mod-eq_of_lt (pow-lt l)

pub only-shifted : (w k : ℕ) → k < w → 1 * 2 ^ k % 2 ^ w ≡ only k
unfolding only
only-shifted w k l = shifted w k l

pub every-shifted : (w n : ℕ) → n < w → 1 * 2 ^ n % 2 ^ w - 1 ≡ every n
unfolding every
every-shifted w n l = ap (λ m. m - 1) (shifted w n l)

pub some-shifted : (w n : ℕ) → n < w → 0 < 1 * 2 ^ n % 2 ^ w
some-shifted w n l = rw (shifted w n l) (pow_pos n)

-- it has no more bits than there are cards
pub every-below : (b n : ℕ) → n ≤ b → every n < 2 ^ b
unfolding every
every-below b n l = omega (arith, pow_pos n, pow_mono l)

-- no card in the mask but those of the mask e of every card
pub inside-every : (n m e : ℕ) → e ≡ every n → leb m e ≡ inside n m
unfolding every inside
inside-every n m e h = test (ltb m (2 ^ n))
    (λ p. rw (p, le-leb m e (let l = ltb-true m (2 ^ n) p in omega (arith, pow_pos n))))
    (λ p. rw (p, lt-leb m e (let l = ltb-false m (2 ^ n) p in omega (arith, pow_pos n))))

-- a set has none of the n cards that are there exactly where a test holds of each of them, where the test fails for just those that it has
pub none-there : (n m : ℕ) (f : ℕ → Bool) → ((k : ℕ) → k < n → has m k ≡ not (f k)) → eqb (bit_and m (every n)) 0 ≡ all n f
unfolding every has all
none-there n m f h = rw (and_mask m n) (go n h)
  where
    digit-is : (k : ℕ) → f k ≡ true → has m k ≡ not (f k) → m / 2 ^ k % 2 ≡ 0
    digit-is k e h = let d = eqb-false (m / 2 ^ k % 2) 1 (h ∙ ap not e) in omega arith

    digit_not : (k : ℕ) → f k ≡ false → has m k ≡ not (f k) → m / 2 ^ k % 2 ≡ 1
    digit_not k e h = eqb-true (m / 2 ^ k % 2) 1 (h ∙ ap not e)

    go : (n : ℕ) → ((k : ℕ) → k < n → has m k ≡ not (f k)) → eqb (m % 2 ^ n) 0 ≡ all n f
    go zero h = rw (mod-one m)
    go (suc n) h =
        let below = go n (λ k l. h k (omega arith)) in
        let here = h n (omega arith) in
        let split : (d : ℕ) → m / 2 ^ n % 2 ≡ d → m % 2 ^ suc n ≡ d * 2 ^ n + m % 2 ^ n
        = λ d e. ap (λ k. m % 2 ^ k) (sym (one-add n)) ∙ mod-pow-add m 1 n ∙ ap (λ d. d * 2 ^ n + m % 2 ^ n) e in
        test (f n)
        (λ e. let same : m % 2 ^ suc n ≡ m % 2 ^ n = let z = split 0 (digit-is n e here) in omega arith in
        ap (λ x. eqb x 0) same ∙ below ∙ ap (λ t. t && all n f) (sym e))
        (λ e. let some = split 1 (digit_not n e here) in
        ne_eqb (m % 2 ^ suc n) 0 (let p = pow_pos n in omega arith) ∙ ap (λ t. t && all n f) (sym e))
