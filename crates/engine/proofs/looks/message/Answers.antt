-- `looks::message`: 15 first, then the position.
use Rattle.std.proofs.lemmas.Result.{err_from_is_err_and}
use Rattle.engine.proofs.Looked.{not-formed, no-message, message-seen}
use Rattle.engine.proofs.looks.message.Goals as goal

pub returns-in_err-of : goal.returns-in_err-of
returns-in_err-of c =
    let p = err_from_is_err_and c.from_residual.result c.from_residual.ensures.1 in
    rw (p.1, p.2, c.in_err-of.ensures.refused.1) (not-formed _ _ c.in_err-of.ensures.refused.0)

pub returns-then-pooled-position : goal.returns-then-pooled-position
returns-then-pooled-position c = no-message _ c.in_ok-of.ensures.made.1 _ _ c.pooled.ensures c.if-pooled-position.true

pub returns : goal.returns
returns c = message-seen _ c.in_ok-of.ensures.made.1 _ _ c.pooled.ensures c.if-pooled-position.false _ c.message_at.ensures
