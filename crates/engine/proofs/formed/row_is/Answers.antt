-- `formed::row_is`: the loop has tested as many words of the row as it has passed.
use Rattle.std.proofs.Common.{arith}
use Rattle.words.proofs.Checks.{row_first, row_more}
use Rattle.engine.proofs.formed.row_is.Goals as goal

pub loop-i-init : goal.loop-i-init
loop-i-init c = (omega arith, row_first c.args.s.now c.args.at c.args.row.now)

pub loop-i-preserved : goal.loop-i-preserved
loop-i-preserved c = (omega arith, rw c.word_at.ensures (row_more _ _ _ _ _ c.loop-i-test.true c.loop-i.invariant.1))
