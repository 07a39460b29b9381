use Rattle.std.proofs.Common.{length, ◌-◌, ◌≤◌}
use Rattle.dump.proofs.read_front.Given as goal

abbrev pub invariant-loop-size : goal.invariant-loop-size
invariant-loop-size g l = l.size ≤ length l.buf

abbrev pub decreases-loop-size : goal.decreases-loop-size
decreases-loop-size g l = length l.initial.buf - l.size
