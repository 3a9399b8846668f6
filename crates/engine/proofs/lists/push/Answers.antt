-- `lists::push`: one more at the tail.
use Rattle.std.proofs.Common.{arith}
use Rattle.engine.proofs.lists.push.Goals as goal

pub returns : goal.returns
returns g c = λ k e. g.met.T.Waits.laws.joins k _ _ _ _ _ e c.count-n.ensures (omega arith) c.put_at.ensures c.set_count.ensures
