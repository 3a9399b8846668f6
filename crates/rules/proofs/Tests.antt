-- Laws of tests: what holds where a test passes, and where it fails.
use Prim.Native.Nat.{ℕ, zero, suc, ◌<◌}
use native.Mathlib.Omega.{arith}
use mathlib.Core.Bool.{Bool, true, false, cond, ◌&&◌, ◌||◌, true≢false}
use mathlib.Core.List.{List, [], ◌∷◌}
use mathlib.Core.Path.{◌≡◌, refl, sym, ◌∙◌}
use lib.Dec.{eqb}
use borrow.Author.Tests.{eqb-true, eqb-false}
use Rattle.rules.specs.Tests.{◌⇒◌, each, any, all, some, all_of}
use Rattle.rules.specs.Lists.{All}

pub clash : {b : Bool} → b ≡ true → b ≡ false → ⊥
clash p q = true≢false (sym p ∙ q)

-- a test passes or fails
module _ {ℓ} {A : Type ℓ} where
  pub test : (b : Bool) → (b ≡ true → A) → (b ≡ false → A) → A
  test b f g = go b refl
    where
      go : (t : Bool) → b ≡ t → A
      go true e = f e
      go false e = g e

-- what holds of both branches holds of a cond
module _ {A : Type 0} where
  pub cond_cases : (P : A → Type 0) (b : Bool) (x y : A) → (b ≡ true → P x) → (b ≡ false → P y) → P (cond b x y)
  cond_cases P b x y f g = go b refl
    where
      go : (t : Bool) → b ≡ t → P (cond t x y)
      go true e = f e
      go false e = g e

pub false-if : {b : Bool} → (b ≡ true → ⊥) → b ≡ false
false-if {b} h = test b (λ p. absurd (h p)) (λ p. p)

-- && and ||

pub and_l : (a b : Bool) → (a && b) ≡ true → a ≡ true
and_l true b h = refl
and_l false b h = h

pub and_r : (a b : Bool) → (a && b) ≡ true → b ≡ true
and_r true b h = h
and_r false b h = absurd (true≢false (sym h))

pub and_i : {a b : Bool} → a ≡ true → b ≡ true → (a && b) ≡ true
and_i p q = rw (p, q)

pub or-i : {a b : Bool} → (a ≡ false → b ≡ true) → (a || b) ≡ true
or-i {a} {b} h = test a (λ p. rw p) (λ p. rw p (h p))

pub or_l : (a b : Bool) → (a || b) ≡ false → a ≡ false
or_l a b h = test a (λ p. absurd (clash (or-i {a = a} {b = b} (λ q. absurd (clash p q))) h)) (λ p. p)

pub or_r : (a b : Bool) → (a || b) ≡ false → b ≡ false
or_r a b h = test b (λ p. absurd (clash (or-i {a = a} {b = b} (λ _. p)) h)) (λ p. p)

-- ⇒

pub imp : {a b : Bool} → (a ⇒ b) ≡ true → a ≡ true → b ≡ true
imp {a} {b} h p = go a h p
  where
    go : (a : Bool) → (a ⇒ b) ≡ true → a ≡ true → b ≡ true
    go true h p = h
    go false h p = absurd (true≢false (sym p))

pub imp-i : (a : Bool) {b : Bool} → (a ≡ true → b ≡ true) → (a ⇒ b) ≡ true
imp-i true h = h refl
imp-i false h = refl

-- A list of tests

pub each→ : (ts : List Bool) → each ts ≡ true → All (λ t. t ≡ true) ts
unfolding each
each→ [] h = tt
each→ (t ∷ ts) h = (and_l t (each ts) h, each→ ts (and_r t (each ts) h))

pub →each : (ts : List Bool) → All (λ t. t ≡ true) ts → each ts ≡ true
unfolding each
→each [] h = refl
→each (t ∷ ts) h = and_i {a = t} h.0 (→each ts h.1)

pub any→ : (ts : List Bool) → any ts ≡ false → All (λ t. t ≡ false) ts
unfolding any
any→ [] h = tt
any→ (t ∷ ts) h = test t
    (λ e. absurd (true≢false (rw e at h)))
    (λ e. (e, any→ ts (rw e at h)))

pub →any : (ts : List Bool) → All (λ t. t ≡ false) ts → any ts ≡ false
unfolding any
→any [] h = refl
→any (t ∷ ts) h = rw h.0 (→any ts h.1)

-- The numbers below a bound

pub all-elim : (n : ℕ) (f : ℕ → Bool) → all n f ≡ true → (i : ℕ) → i < n → f i ≡ true
unfolding all
all-elim zero f h i l = absurd (omega arith)
all-elim (suc n) f h i l = test (eqb i n)
    (λ e. rw (eqb-true i n e) (and_l (f n) (all n f) h))
    (λ e. all-elim n f (and_r (f n) (all n f) h) i (let d = eqb-false i n e in omega arith))

pub all-intro : (n : ℕ) (f : ℕ → Bool) → ((i : ℕ) → i < n → f i ≡ true) → all n f ≡ true
unfolding all
all-intro zero f h = refl
all-intro (suc n) f h = and_i {a = f n} (h n (omega arith)) (all-intro n f (λ i l. h i (omega arith)))

pub some-false : (n : ℕ) (f : ℕ → Bool) → some n f ≡ false → (i : ℕ) → i < n → f i ≡ false
unfolding some
some-false zero f h i l = absurd (omega arith)
some-false (suc n) f h i l = test (f n)
    (λ e. absurd (true≢false (rw e at h)))
    (λ e. test (eqb i n)
    (λ d. rw (eqb-true i n d) e)
    (λ d. some-false n f (rw e at h) i (let g = eqb-false i n d in omega arith)))

-- The elements of a list

module _ {A : Type 0} where
  pub all_of→ : (f : A → Bool) (xs : List A) → all_of xs f ≡ true → All (λ x. f x ≡ true) xs
  unfolding all_of
  all_of→ f [] h = tt
  all_of→ f (x ∷ xs) h = (and_l (f x) (all_of xs f) h, all_of→ f xs (and_r (f x) (all_of xs f) h))

  pub →all_of : (f : A → Bool) (xs : List A) → All (λ x. f x ≡ true) xs → all_of xs f ≡ true
  unfolding all_of
  →all_of f [] h = refl
  →all_of f (x ∷ xs) h = and_i {a = f x} h.0 (→all_of f xs h.1)
