-- `formed::row_is`: the loop has tested as many words of the row as it has passed.
use Rattle.std.proofs.Common.{◌≡◌, ◌≤◌, length, take}
use Rattle.words.specs.Inner.Tested.{row_is}
use Rattle.engine.proofs.formed.row_is.Given as goal

abbrev pub invariant-loop-i : goal.invariant-loop-i
invariant-loop-i l = (l.i ≤ length l.row) × (l.same ≡ row_is l.s l.at (take l.i l.row))
