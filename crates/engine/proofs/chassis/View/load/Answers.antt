-- `View::load` ends in one of the ways of a load.
use mathlib.Core.Path.{refl, sym, ◌∙◌}
use Rattle.std.proofs.lemmas.Result.{err_from_is_err_and}
use Rattle.rules.specs.Table.{loads}
use Rattle.rules.specs.Events.{reasons, right_reasons}
use Rattle.engine.proofs.Rights.{missing, no-right, load-done}
use Rattle.engine.proofs.chassis.View.load.Goals as goal

pub returns-in_err-cell : goal.returns-in_err-cell
unfolding reasons right_reasons
returns-in_err-cell c =
    let p = err_from_is_err_and c.from_residual.result c.from_residual.ensures.1 in
    rw (p.1, p.2) (missing _ c.args.self.is_formed _ _ _ _ _ refl c.in_err-cell.ensures)

pub returns-then-not-loads : goal.returns-then-not-loads
unfolding reasons
returns-then-not-loads c =
    no-right _ c.args.self.is_formed _ _ _ loads refl _ c.in_ok-cell.ensures (sym c.loads.ensures ∙ c.if-not-loads.true)

pub returns : goal.returns
returns c = load-done _ c.args.self.is_formed _ _ _ c.in_ok-cell.ensures (sym c.loads.ensures ∙ c.if-not-loads.false)
