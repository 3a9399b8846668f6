-- `Headed::place_formed`: the words of what is read there and its test, or those of a place that is not used.
use Rattle.std.proofs.Common.{arith}
use borrow.Author.Tests.{lt-ltb, le-ltb}
use Rattle.engine.proofs.formed.Headed.place_formed.Goals as goal

pub row_is-requires : goal.row_is-requires
row_is-requires g c = omega (arith, g.met.T.Waits.laws.in_words, c.place-p.ensures)

pub row_is-requires-2 : goal.row_is-requires-2
row_is-requires-2 g c = omega (arith, g.met.T.Waits.laws.in_words, c.place-p.ensures)

pub returns-then-place-count : goal.returns-then-place-count
returns-then-place-count g c =
    rw (c.row_is.ensures, c.row.ensures, c.is_ok.ensures, c.at-x.ensures, c.place-p.ensures)
    (rw (lt-ltb _ _ (rw c.count.ensures at c.if-place-count.true)) at (g.met.T.Waits.laws.tests c.args.self.state.now c.args.place))

pub returns : goal.returns
returns g c =
    rw (c.row_is-2.ensures, c.place-p.ensures)
    (rw (le-ltb _ _ (rw c.count.ensures at c.if-place-count.false), g.met.T.Waits.laws.zeros) at (g.met.T.Waits.laws.tests c.args.self.state.now c.args.place))
