-- The loop of `read_script`: what was read lies within the room.
use Rattle.std.proofs.Common.{length, ◌-◌, ◌≤◌}
use Rattle.checks.proofs.read_script.Given as goal

abbrev pub invariant-loop-read : goal.invariant-loop-read
invariant-loop-read g l = l.read ≤ length l.room

abbrev pub decreases-loop-read : goal.decreases-loop-read
decreases-loop-read g l = length l.initial.room - l.read
