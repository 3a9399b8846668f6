-- `judge::held`: some card that is there waits for data.
use Prim.Native.Nat.{ℕ, zero, suc, ◌+◌, ◌<◌}
use Rattle.std.proofs.Common.{rules}
use native.Mathlib.Omega.{arith}
use borrow.Author.Tests.{tests}
use mathlib.Core.Bool.{Bool, true, false, cond, ◌||◌}
use mathlib.Core.Path.{◌≡◌, refl, sym, ap, ap₂, ◌∙◌, fun_ext}
use Rattle.std.specs.List.{list_any, range_with_len}
use Rattle.std.proofs.lemmas.Iterator.{YieldsList-from_range}
use Rattle.std.proofs.lemmas.Iterator.Search.{any_from_yields_List}
use Rattle.rules.specs.Tests.{some}
use Rattle.rules.specs.Table.{waits}
use Rattle.rules.specs.Order.{held}
use Rattle.rules.specs.declared.Cell.{Cell}
use Rattle.words.specs.Words.{cards_of, cell_at}
use Rattle.words.proofs.View.{view-cell}
use Rattle.engine.proofs.judge.held.Goals as goal

-- of n numbers, the first or one of the others
some-first : (n : ℕ) (f : ℕ → Bool) → some (suc n) f ≡ (f 0 || some n (λ k. f (suc k)))
unfolding some
some-first zero f = last (f 0)
  where
    last : (a : Bool) → cond a true false ≡ (a || false)
    last true = refl
    last false = refl
some-first (suc n) f = ap (cond (f (suc n)) true) (some-first n f) ∙ swap (f (suc n)) (f 0) (some n (λ k. f (suc k)))
  where
    swap : (a b c : Bool) → cond a true (b || c) ≡ (b || cond a true c)
    swap true true c = refl
    swap true false c = refl
    swap false b c = refl

any-some : (n a : ℕ) (f : ℕ → Bool) → list_any f (range_with_len a n) ≡ some n (λ k. f (a + k))
unfolding some
any-some zero a f = refl
any-some (suc n) a f =
    let start : a ≡ a + 0 = omega arith in
    ap₂ (λ x y. x || y) (ap f start) (any-some n (a + 1) f ∙ ap (some n) (fun_ext (λ k. let e : a + 1 + k ≡ a + suc k = omega arith in ap f e)))
    ∙ sym (some-first n (λ k. f (a + k)))

any-below : (n : ℕ) (f : ℕ → Bool) → list_any f (range_with_len 0 n) ≡ some n f
any-below n f = any-some n 0 f ∙ ap (some n) (fun_ext (λ k. let e : 0 + k ≡ k = omega arith in ap f e))

some-same : (n : ℕ) (f g : ℕ → Bool) → ((k : ℕ) → k < n → f k ≡ g k) → some n f ≡ some n g
unfolding some
some-same zero f g h = refl
some-same (suc n) f g h = ap₂ (λ a b. cond a true b) (h n (omega arith)) (some-same n f g (λ k l. h k (omega arith)))

pub returns : goal.returns
unfolding held
returns c =
    let w = c.args.s.now in
    let b = c.args.block in
    let few = c.requires.0 in
    any_from_yields_List (λ k. waits (cell_at w k b).state) _ _ _ c.any.ensures.ran (YieldsList-from_range 0 c.cards.result c.cards.result refl (omega arith))
    (λ x b q k. search (rules, tests))
    ∙ any-below c.cards.result (λ k. waits (cell_at w k b).state)
    ∙ ap (λ n. some n (λ k. waits (cell_at w k b).state)) c.cards.ensures
    ∙ some-same (cards_of w) _ _ (λ k l. ap (λ (x : Cell). waits x.state) (sym (view-cell w k b (omega arith) c.requires.1)))
