-- `start::start_none`: home's part is as Start makes it in the blocks before `block`.
use Rattle.std.proofs.Common.{arith}
use Rattle.words.proofs.Started.{none-begun, begin-next, all-begun}
use Rattle.engine.proofs.start.start_none.Goals as goal

pub loop-block-init : goal.loop-block-init
loop-block-init c = none-begun

pub loop-block-preserved : goal.loop-block-preserved
loop-block-preserved c = begin-next _ _ _ (omega arith) c.loop-block.invariant c.put_home.ensures

pub returns : goal.returns
returns c = all-begun _ _ (omega arith) c.loop-block.invariant
