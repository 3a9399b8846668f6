-- `lists::put_at`: there are words for each place.
use Rattle.std.proofs.Common.{arith}
use Rattle.engine.proofs.lists.put_at.Goals as goal

pub put-requires : goal.put-requires
put-requires g c = omega (arith, g.met.T.Waits.laws.in_words, c.place.ensures)

pub returns : goal.returns
returns g c = rw c.place.ensures at c.put.ensures
