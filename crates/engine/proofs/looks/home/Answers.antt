-- `looks::home`: 15 first, then the block.
use Rattle.std.proofs.lemmas.Result.{err_from_is_err_and}
use Rattle.engine.proofs.Looked.{not-formed, no-home, home-seen}
use Rattle.engine.proofs.looks.home.Goals as goal

pub returns-in_err-of : goal.returns-in_err-of
returns-in_err-of c =
    let p = err_from_is_err_and c.from_residual.result c.from_residual.ensures.1 in
    rw (p.1, p.2, c.in_err-of.ensures.refused.1) (not-formed _ _ c.in_err-of.ensures.refused.0)

pub returns-then-blocks-block : goal.returns-then-blocks-block
returns-then-blocks-block c = no-home _ c.in_ok-of.ensures.made.1 _ _ c.blocks-2.ensures c.if-blocks-block.true

pub returns : goal.returns
returns c =
    let h = c.home_at.ensures in
    home-seen _ c.in_ok-of.ensures.made.1 _ _ c.blocks-2.ensures c.if-blocks-block.false _ _ _ h.0 h.1 h.2
