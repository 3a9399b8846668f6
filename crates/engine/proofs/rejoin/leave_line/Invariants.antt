-- `rejoin::leave_line`: the card's requests have left the places from the one reached on.
use Rattle.words.proofs.Rejoined.{Leaves}
use Rattle.engine.proofs.rejoin.leave_line.Given as goal

abbrev pub invariant-loop-place : goal.invariant-loop-place
invariant-loop-place l = Leaves l.initial.s l.card l.s l.place
