-- `looks::counts`: 15 first, then what there is.
use Rattle.std.proofs.lemmas.Result.{err_from_is_err_and}
use Rattle.engine.proofs.Looked.{not-formed, counts-seen}
use Rattle.engine.proofs.looks.counts.Goals as goal

pub returns-in_err-of : goal.returns-in_err-of
returns-in_err-of c =
    let p = err_from_is_err_and c.from_residual.result c.from_residual.ensures.1 in
    rw (p.1, p.2, c.in_err-of.ensures.refused.1) (not-formed _ _ c.in_err-of.ensures.refused.0)

pub returns : goal.returns
returns c =
    counts-seen _ c.in_ok-of.ensures.made.1 _ _ _ _ _ _ c.edition.ensures c.cards.ensures c.blocks-2.ensures c.waiting.ensures
    c.pooled.ensures c.last.ensures
