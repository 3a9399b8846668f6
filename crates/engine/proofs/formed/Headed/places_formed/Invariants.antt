-- `Headed::places_formed`: the places before `place` are tested.
use Rattle.std.proofs.Common.{◌≡◌}
use Rattle.rules.specs.Tests.{all}
use Rattle.engine.proofs.formed.Headed.places_formed.Given as goal

abbrev pub invariant-loop-place : goal.invariant-loop-place
invariant-loop-place g l = l.ok ≡ all l.place (g.T.Waits.tested l.self.state.now)
