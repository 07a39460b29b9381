-- `tiles` meets its contract: what is left of the run tiles exactly where the whole does, since every AVP passed so far was complete. The
-- measure is what is left.
use mathlib.Core.Path.{◌≡◌}
use lib.ListN.{length}
use Rattle.rfc6733.specs.Records.{tiling}
use Rattle.front.proofs.tiles.Given as goal

abbrev pub invariant-loop-a : goal.invariant-loop-a
invariant-loop-a l = tiling l.rest ≡ tiling l.s

abbrev pub decreases-loop-a : goal.decreases-loop-a
decreases-loop-a l = length l.rest
