-- `View::find`: the tests for the card and the block, in this order.
use Rattle.std.specs.Prelude.{Ok}
use borrow.Author.Tests.{le-leb, lt-leb}
use native.Mathlib.Omega.{arith}
use Prim.Native.Nat.{◌≤◌, ◌<◌}
use mathlib.Core.Path.{ap}
use Rattle.words.specs.Words.{cards_of, blocks_of}
use Rattle.engine.specs.Inner.Sought.{sought}
use Rattle.engine.proofs.chassis.View.find.Goals as goal

pub returns-then-cards-card : goal.returns-then-cards-card
unfolding sought
returns-then-cards-card c =
    let a = c.args in
    let h : cards_of a.self.words.now ≤ a.card = omega arith in
    rw (le-leb (cards_of a.self.words.now) a.card h)

pub returns-then-blocks-block : goal.returns-then-blocks-block
unfolding sought
returns-then-blocks-block c =
    let a = c.args in
    let h : a.card < cards_of a.self.words.now = omega arith in
    let g : blocks_of a.self.words.now ≤ a.block = omega arith in
    rw (lt-leb (cards_of a.self.words.now) a.card h, le-leb (blocks_of a.self.words.now) a.block g)

pub returns : goal.returns
unfolding sought
returns c =
    let a = c.args in
    let h : a.card < cards_of a.self.words.now = omega arith in
    let g : a.block < blocks_of a.self.words.now = omega arith in
    rw (lt-leb (cards_of a.self.words.now) a.card h, lt-leb (blocks_of a.self.words.now) a.block g) (ap Ok c.cell_at.ensures)
