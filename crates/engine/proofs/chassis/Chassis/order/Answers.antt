-- `Chassis::order`: an empty line first, then what was decided of the head.
use mathlib.Core.Path.{sym, ap, ◌∙◌}
use Rattle.words.specs.Words.{view}
use Rattle.engine.specs.Inner.Ordering.{judged}
use Rattle.std.proofs.lemmas.Result.{err_from_is_err_and}
use Rattle.engine.proofs.Ordered.{line-empty, some-wait, head-refused}
use Rattle.engine.proofs.chassis.Chassis.order.Goals as goal

pub returns-then-waiting-eq0-clause-done : goal.returns-then-waiting-eq0-clause-done
returns-then-waiting-eq0-clause-done c = line-empty _ c.args.self.now.is_formed (sym c.waiting.ensures ∙ c.if-waiting-eq0.true)

pub returns-in_err-turn-clause-done : goal.returns-in_err-turn-clause-done
returns-in_err-turn-clause-done c =
    let p = err_from_is_err_and c.from_residual.result c.from_residual.ensures.1 in
    rw (p.1, p.2)
    (head-refused _ c.args.self.now.is_formed (some-wait _ _ c.waiting.ensures c.if-waiting-eq0.false) _ c.request_at-request.ensures _ (c.in_err-turn.ensures ∙ ap (λ w. judged (view w) c.request_at-request.result) c.view.ensures))
