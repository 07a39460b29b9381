-- What is left of the run tiles exactly where the whole does, and has as many items fewer as were counted (`Counting`), each of which
-- took a byte at least. The measure is what is left.
use Prim.Native.Nat.{◌+◌, ◌≤◌}
use lib.ListN.{length}
use Rattle.octets.specs.Run.{tree}
use Rattle.rfc2865.specs.Attribute.{attributes}
use Rattle.radius_attributes.proofs.Counting.{Counting}
use Rattle.radius_attributes.proofs.count.Given as goal

abbrev pub invariant-loop-rest : goal.invariant-loop-rest
invariant-loop-rest l =
    record {
      taken : l.records + length l.rest ≤ length l.s;
      counting : Counting (tree attributes l.s) (tree attributes l.rest) l.records;
    }

abbrev pub decreases-loop-rest : goal.decreases-loop-rest
decreases-loop-rest l = length l.rest
