-- `formed::cell_formed`: the words of the cell that is read and its test, or those of an idle cell.
use borrow.Author.Tests.{lt-ltb, le-ltb}
use Rattle.words.specs.Words.{edition_of}
use Rattle.words.specs.Inner.Tested.{cell_test}
use Rattle.engine.proofs.formed.cell_formed.Goals as goal

pub returns-then-card-cards : goal.returns-then-card-cards
unfolding cell_test
returns-then-card-cards c =
    rw (
      lt-ltb _ _ c.if-card-cards.true,
      c.row_is.ensures,
      c.row.ensures,
      c.ok_cell.ensures (edition_of c.args.s.now) c.states.ensures,
      c.last.ensures,
      c.cell_at-x.ensures,
      c.cell_place-p.ensures,
    )

pub returns : goal.returns
unfolding cell_test
returns c = rw (le-ltb _ _ c.if-card-cards.false) (rw c.cell_place-p.ensures at c.row_is-2.ensures)
