-- `formed::are_sizes`: the four tests one after the other.
use mathlib.Core.Bool.{and-true, and_assoc}
use Rattle.rules.specs.Tests.{each}
use Rattle.rules.specs.Formed.{sizes}
use Rattle.engine.proofs.formed.are_sizes.Goals as goal

pub returns : goal.returns
unfolding sizes each
returns c = simp (and_assoc, and-true)
