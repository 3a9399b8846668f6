-- `rejoin::leave_blocks`: the card has left the blocks below the one reached.
use Rattle.words.specs.Inner.Leaving.{BlocksFit, blocks_left, BecomesIf}
use Rattle.engine.proofs.rejoin.leave_blocks.Given as goal

abbrev pub invariant-loop-block : goal.invariant-loop-block
invariant-loop-block l = BecomesIf BlocksFit l.initial.s l.s (λ c. blocks_left c l.card l.block)
