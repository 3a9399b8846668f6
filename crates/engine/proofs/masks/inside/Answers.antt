-- `masks::inside`: what is not above the mask of every card. No mask has a bit from the eighth on.
use Prim.Native.Nat.{ℕ, ◌^◌, ◌≤◌, ◌<◌}
use native.Mathlib.Omega.{arith}
use mathlib.Core.Bool.{true}
use mathlib.Core.Path.{◌≡◌, sym, ◌∙◌}
use lib.Pow.{pow_mono}
use borrow.Author.Tests.{lt-ltb}
use Rattle.rules.specs.Masks.{inside}
use Rattle.rules.proofs.Masks.{inside-every}
use Rattle.engine.proofs.masks.inside.Goals as goal

inside-many : (n m : ℕ) → m < 2 ^ 8 → 8 ≤ n → true ≡ inside n m
unfolding inside
inside-many n m l h =
    let p : 2 ^ 8 ≤ 2 ^ n = pow_mono h in
    let below : m < 2 ^ n = omega arith in
    sym (lt-ltb m (2 ^ n) below)

pub returns-then-cards : goal.returns-then-cards
returns-then-cards c = lt-ltb _ _ c.if-cards.true ∙ inside-many c.args.cards c.args.mask (omega arith) (omega arith)

pub returns-else-cards : goal.returns-else-cards
returns-else-cards c = inside-every _ _ _ c.every.ensures
