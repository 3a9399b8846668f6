-- `masks::has`: a shift is a division, and a mask has no bit from the eighth on.
use Prim.Native.Nat.{ℕ, ◌^◌, ◌≤◌, ◌<◌}
use native.Mathlib.Nat.{div-eq_of_lt}
use native.Mathlib.Omega.{arith}
use mathlib.Core.Bool.{false}
use mathlib.Core.Path.{◌≡◌, ◌∙◌}
use lib.Pow.{pow_mono}
use borrow.Author.Tests.{le-ltb}
use Rattle.rules.specs.Masks.{has}
use Rattle.engine.proofs.masks.has.Goals as goal

has-beyond : (m k : ℕ) → m < 2 ^ 8 → 8 ≤ k → false ≡ has m k
unfolding has
has-beyond m k l h =
    let p : 2 ^ 8 ≤ 2 ^ k = pow_mono h in
    let none : m < 2 ^ k = omega arith in
    rw (div-eq_of_lt none)

pub returns-else-card-lt-MOST_CARDS : goal.returns-else-card-lt-MOST_CARDS
returns-else-card-lt-MOST_CARDS c = le-ltb _ _ c.if-card-lt-MOST_CARDS.false ∙ has-beyond c.args.mask c.args.card (omega arith) c.if-card-lt-MOST_CARDS.false
