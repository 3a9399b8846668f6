-- `Headed::places_formed`: the places before `place` are tested.
use Rattle.std.proofs.Common.{arith}
use Rattle.engine.proofs.Ranges.{all_none, all_more, all_done}
use Rattle.engine.proofs.formed.Headed.places_formed.Goals as goal

pub loop-place-init : goal.loop-place-init
loop-place-init g c = all_none _

pub loop-place-preserved : goal.loop-place-preserved
loop-place-preserved g c = all_more _ _ _ c.loop-place.invariant _ c.place_formed-ok.ensures

pub returns : goal.returns
returns g c = all_done _ _ _ c.loop-place.invariant _ (omega arith)
