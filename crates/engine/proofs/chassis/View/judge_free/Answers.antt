-- `View::judge_free`: what is read is the head's block, and the first test that holds decides.
use Rattle.engine.proofs.Judging.{free-impossible, free-full, free-turn}
use Rattle.engine.proofs.chassis.View.judge_free.Goals as goal

pub returns-then-impossible : goal.returns-then-impossible
returns-then-impossible c =
    let f = c.args.self.is_formed in
    let p = c.requires in
    free-impossible _ f p.0 _ p.1 _ c.head-head.ensures _ c.impossible.ensures c.if-impossible.true

pub returns-then-request-pooled : goal.returns-then-request-pooled
returns-then-request-pooled c =
    let f = c.args.self.is_formed in
    let p = c.requires in
    free-full _ f p.0 _ p.1 _ c.head-head.ensures _ c.impossible.ensures c.if-impossible.false _ c.pooled.ensures c.if-request-pooled.true

pub returns : goal.returns
returns c =
    let f = c.args.self.is_formed in
    let p = c.requires in
    free-turn _ f p.0 _ p.1 _ c.head-head.ensures _ c.impossible.ensures c.if-impossible.false
    _ c.pooled.ensures c.if-request-pooled.false _ c.edition.ensures _ c.turn.ensures
