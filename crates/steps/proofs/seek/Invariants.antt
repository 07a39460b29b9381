-- `seek` meets its contract: the search from `at` finds what the search from `place` does, since every AVP passed so far was complete and
-- had another code. The measure is what is left of the payload.
use Prim.Native.Nat.{◌-◌}
use lib.ListN.{length}
use Rattle.steps.proofs.Steps.{Seeking}
use Rattle.steps.proofs.seek.Given as goal

abbrev pub invariant-loop-at : goal.invariant-loop-at
invariant-loop-at l = Seeking l.code l.payload l.place l.at

abbrev pub decreases-loop-at : goal.decreases-loop-at
decreases-loop-at l = length l.payload - l.at
