-- `Headed::block_formed`: the words of home's part that is read and its test, or those of a fresh block; and the cells.
use borrow.Author.Tests.{lt-ltb, le-ltb}
use Rattle.words.specs.Inner.Tested.{home_test, block_test}
use Rattle.engine.proofs.formed.Headed.block_formed.Goals as goal

pub returns-then-block-blocks : goal.returns-then-block-blocks
unfolding block_test home_test
returns-then-block-blocks c =
    rw (
      ← c.blocks-2.ensures,
      lt-ltb _ _ c.if-block-blocks.true,
      c.row_is.ensures,
      c.row.ensures,
      c.ok_home.ensures,
      c.cells_formed.ensures,
      c.cards.ensures,
      c.home_at-h.ensures.0,
      c.home_at-h.ensures.1,
      c.home_at-h.ensures.2,
      c.home_place-p.ensures,
    )

pub returns : goal.returns
unfolding block_test
returns c =
    rw (
      ← c.blocks-2.ensures,
      le-ltb _ _ c.if-block-blocks.false,
      c.row_is-2.ensures,
      c.cells_formed-2.ensures,
      c.home_place-p.ensures,
    )
