-- `formed::cells_formed`: the cells before `card` are tested.
use Rattle.std.proofs.Common.{◌≡◌}
use Rattle.rules.specs.Tests.{all}
use Rattle.words.specs.Inner.Tested.{cell_test}
use Rattle.engine.proofs.formed.cells_formed.Given as goal

abbrev pub invariant-loop-card : goal.invariant-loop-card
invariant-loop-card l = l.ok ≡ all l.card (cell_test l.s l.cards l.block)
