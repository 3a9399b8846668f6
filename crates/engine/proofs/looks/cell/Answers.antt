-- `looks::cell`: 15 first, then the card and the block.
use Rattle.std.proofs.lemmas.Result.{err_from_is_err_and}
use Rattle.engine.proofs.Looked.{not-formed, cell-is, cell-missing}
use Rattle.engine.proofs.looks.cell.Goals as goal

pub returns-in_err-view : goal.returns-in_err-view
returns-in_err-view c =
    let p = err_from_is_err_and c.from_residual.result c.from_residual.ensures.1 in
    rw (p.1, p.2, c.in_err-view.ensures.refused.1) (not-formed _ _ c.in_err-view.ensures.refused.0)

pub returns-in_err-find : goal.returns-in_err-find
returns-in_err-find c =
    let p = err_from_is_err_and c.from_residual-in_err-find.result c.from_residual-in_err-find.ensures.1 in
    rw (p.1, p.2) (cell-missing _ c.in_ok-view.ensures.made.1 _ _ _ (rw c.in_ok-view.ensures.made.0 at c.in_err-find.ensures))

pub returns : goal.returns
returns c = cell-is _ c.in_ok-view.ensures.made.1 _ _ _ (rw c.in_ok-view.ensures.made.0 at c.in_ok-find.ensures)
