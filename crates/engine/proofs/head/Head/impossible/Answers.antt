-- `Head::impossible`: the six ways in which a request is impossible.
use Rattle.engine.proofs.Judging.{impossible-test}
use Rattle.engine.proofs.head.Head.impossible.Goals as goal

pub returns : goal.returns
returns c =
    impossible-test c.args.self _ _ _ _ c.put_stands-stands.ensures c.upgrades-upgrades.ensures c.comes_from.ensures c.can_give.ensures
