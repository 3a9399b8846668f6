-- `sees::cards_see`: the cards below the one reached have seen the request.
use native.Mathlib.Omega.{arith}
use mathlib.Core.Path.{◌≡◌}
use Rattle.words.proofs.Seeing.{seen_none, seen_more}
use Rattle.engine.proofs.sees.cards_see.Goals as goal

pub loop-card-init : goal.loop-card-init
loop-card-init c = seen_none _ _ _ _ _

pub loop-card-preserved : goal.loop-card-preserved
loop-card-preserved c =
    seen_more _ _ _ _ _ _ _ _ _ _ (omega arith) c.args.head.block_there c.loop-card.invariant
    c.cell_at-cell.ensures c.seen.ensures c.put_cell.ensures

pub returns : goal.returns
returns c =
    let all : c.loop-card.card ≡ c.args.head.cards = omega arith in
    rw all at c.loop-card.invariant
