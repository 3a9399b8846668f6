-- `formed::head_formed`: the test of the header, word by word.
use Rattle.words.specs.Inner.Tested.{head_test}
use Rattle.engine.proofs.formed.head_formed.Goals as goal

pub returns : goal.returns
unfolding head_test
returns c =
    rw (
      c.word_at.ensures,
      c.are_sizes.ensures,
      c.cards.ensures,
      c.blocks-2.ensures,
      c.waiting.ensures,
      c.pooled.ensures,
    )
