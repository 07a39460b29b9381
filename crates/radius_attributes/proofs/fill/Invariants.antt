-- The records of the attributes passed stand in the store, one after the other (`Filling`), and what is left stands where they end.
use Prim.Native.Nat.{◌+◌}
use mathlib.Core.Path.{◌≡◌}
use lib.ListN.{length}
use Rattle.octets.specs.Run.{tree}
use Rattle.rfc2865.specs.Attribute.{attributes}
use Rattle.radius_attributes.proofs.Filling.{Filling}
use Rattle.radius_attributes.proofs.fill.Given as goal

abbrev pub invariant-loop-index : goal.invariant-loop-index
invariant-loop-index l =
    record {
      place_is : l.at + length l.rest ≡ l.place + length l.s;
      filling : Filling (tree attributes l.s) (tree attributes l.rest) l.place l.at l.index l.errors l.initial.store l.store;
    }
