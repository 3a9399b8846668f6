-- `looks::request`: 15 first, then the position.
use Rattle.std.proofs.lemmas.Result.{err_from_is_err_and}
use Rattle.engine.proofs.Looked.{not-formed, no-request, request-seen}
use Rattle.engine.proofs.looks.request.Goals as goal

pub returns-in_err-of : goal.returns-in_err-of
returns-in_err-of c =
    let p = err_from_is_err_and c.from_residual.result c.from_residual.ensures.1 in
    rw (p.1, p.2, c.in_err-of.ensures.refused.1) (not-formed _ _ c.in_err-of.ensures.refused.0)

pub returns-then-waiting-position : goal.returns-then-waiting-position
returns-then-waiting-position c = no-request _ c.in_ok-of.ensures.made.1 _ _ c.waiting.ensures c.if-waiting-position.true

pub returns : goal.returns
returns c = request-seen _ c.in_ok-of.ensures.made.1 _ _ c.waiting.ensures c.if-waiting-position.false _ c.request_at.ensures
