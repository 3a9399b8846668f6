-- `rejoin::leave_blocks`: the card has left the blocks below the one reached.
use native.Mathlib.Omega.{arith}
use mathlib.Core.Path.{◌≡◌, ap, ◌∙◌}
use Rattle.words.specs.Words.{words}
use Rattle.words.specs.Inner.Leaving.{blocks_left}
use Rattle.words.proofs.View.{blocks-of}
use Rattle.words.proofs.Rejoined.{block-left, none_left, leave-next}
use Rattle.engine.proofs.rejoin.leave_blocks.Goals as goal

pub loop-block-init : goal.loop-block-init
loop-block-init c = λ k f e. e ∙ ap words (none_left _ k)

pub loop-block-preserved : goal.loop-block-preserved
loop-block-preserved c = λ k f e.
    let h = c.home_at-home.ensures in
    leave-next _ k _ _ _ (omega arith) f (c.loop-block.invariant k f e)
    (λ d g i. block-left d _ i _ (omega arith) g _ c.requires.0 _ _ h.0 h.1 h.2
    c.home_without.ensures _ _ c.put_home.ensures (rw c.idle.ensures at c.put_cell.ensures))

pub returns : goal.returns
returns c = λ k f e.
    let is : c.loop-block.block ≡ k.blocks = omega (arith, blocks-of k _ e) in
    c.loop-block.invariant k f e ∙ ap (λ n. words (blocks_left k c.args.card n)) is
