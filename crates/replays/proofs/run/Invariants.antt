use Rattle.std.proofs.Common.{◌+◌, ◌≤◌, length}
use Rattle.replays.proofs.run.Given as goal

abbrev pub invariant-loop-recording : goal.invariant-loop-recording
invariant-loop-recording l = l.number + length l.rest ≤ length l.initial.rest

abbrev pub decreases-loop-recording : goal.decreases-loop-recording
decreases-loop-recording l = length l.rest
