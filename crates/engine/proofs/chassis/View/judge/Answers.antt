-- `View::judge`: 12 and 9 first.
use Rattle.words.proofs.Does.{sizes}
use Rattle.engine.proofs.Judging.{head-block, numbers-spent, block_held, block-free}
use Rattle.engine.proofs.chassis.View.judge.Goals as goal

pub held-waits-requires : goal.held-waits-requires
held-waits-requires c = ((sizes _ c.args.self.is_formed).few-cards, head-block _ c.args.self.is_formed c.requires.0 _ c.requires.1)

pub returns-then-spent : goal.returns-then-spent
returns-then-spent c =
    numbers-spent _ c.args.self.is_formed c.requires.0 _ c.requires.1 _ c.last-number.ensures c.if-spent.true

pub returns-then-waits : goal.returns-then-waits
returns-then-waits c =
    block_held _ c.args.self.is_formed c.requires.0 _ c.requires.1 _ c.last-number.ensures c.if-spent.false
    _ c.held-waits.ensures c.if-waits.true

pub returns : goal.returns
returns c =
    block-free _ c.args.self.is_formed c.requires.0 _ c.requires.1 _ c.last-number.ensures c.if-spent.false
    _ c.held-waits.ensures c.if-waits.false _ c.judge_free.ensures
