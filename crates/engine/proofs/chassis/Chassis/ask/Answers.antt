-- `Chassis::ask`: where there is no cell, it ends as the look-up says.
use mathlib.Core.Path.{refl, ap, ◌∙◌}
use Rattle.std.proofs.lemmas.Result.{err_from_is_err_and}
use Rattle.rules.specs.Events.{reasons}
use Rattle.engine.specs.Inner.Sought.{sought}
use Rattle.engine.proofs.Rights.{missing}
use Rattle.engine.proofs.chassis.Chassis.ask.Goals as goal

pub returns-in_err-cell-clause-done : goal.returns-in_err-cell-clause-done
unfolding reasons
returns-in_err-cell-clause-done c =
    let p = err_from_is_err_and c.from_residual.result c.from_residual.ensures.1 in
    rw (p.1, p.2) (missing _ c.args.self.now.is_formed _ _ _ _ _ refl (c.in_err-cell.ensures ∙ ap (λ w. sought w c.args.card c.args.block) c.view.ensures))
