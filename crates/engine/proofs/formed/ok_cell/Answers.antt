-- `formed::ok_cell`: the rules' tests of a cell, one after the other.
use Rattle.words.proofs.Checks.{cell-tested}
use Rattle.engine.proofs.formed.ok_cell.Goals as goal

pub returns : goal.returns
returns c =
    λ e is. cell-tested e _ _ _ _ _ is c.waits-w.ensures c.loads-l.ensures
