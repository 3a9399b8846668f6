-- `start::start_none`: home's part is as Start makes it in the blocks before `block`.
use Rattle.std.proofs.Common.{◌≡◌}
use Rattle.words.specs.Words.{words}
use Rattle.words.proofs.Started.{begun}
use Rattle.engine.proofs.start.start_none.Given as goal

abbrev pub invariant-loop-block : goal.invariant-loop-block
invariant-loop-block l = l.state ≡ words (begun l.block)
