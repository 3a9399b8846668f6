-- `Headed::blocks_formed`: the blocks before `block` are tested.
use Rattle.std.proofs.Common.{◌≡◌}
use Rattle.rules.specs.Tests.{all}
use Rattle.words.specs.Inner.Tested.{block_test}
use Rattle.engine.proofs.formed.Headed.blocks_formed.Given as goal

abbrev pub invariant-loop-block : goal.invariant-loop-block
invariant-loop-block l = l.ok ≡ all l.block (block_test l.self.state.now)
