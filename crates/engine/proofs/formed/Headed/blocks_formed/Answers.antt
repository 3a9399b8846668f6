-- `Headed::blocks_formed`: the blocks before `block` are tested.
use Rattle.std.proofs.Common.{arith}
use Rattle.engine.proofs.Ranges.{all_none, all_more, all_done}
use Rattle.engine.proofs.formed.Headed.blocks_formed.Goals as goal

pub loop-block-init : goal.loop-block-init
loop-block-init c = all_none _

pub loop-block-preserved : goal.loop-block-preserved
loop-block-preserved c = all_more _ _ _ c.loop-block.invariant _ c.block_formed-ok.ensures

pub returns : goal.returns
returns c = all_done _ _ _ c.loop-block.invariant _ (omega arith)
