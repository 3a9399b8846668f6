-- `formed::cells_formed`: the cells before `card` are tested.
use Rattle.std.proofs.Common.{arith}
use Rattle.engine.proofs.Ranges.{all_none, all_more, all_done}
use Rattle.engine.proofs.formed.cells_formed.Goals as goal

pub loop-card-init : goal.loop-card-init
loop-card-init c = all_none _

pub loop-card-preserved : goal.loop-card-preserved
loop-card-preserved c = all_more _ _ _ c.loop-card.invariant _ c.cell_formed-ok.ensures

pub returns : goal.returns
returns c = all_done _ _ _ c.loop-card.invariant _ (omega arith)
