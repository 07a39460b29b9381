-- No other kind reads as Grouped: data are read as the kind that the dictionary has, as Unhandled, or as an Address. For any
-- dictionary this asks only that an Address is not read as Grouped, which holds with its family and without.
use Prim.Native.Nat.{ℕ}
use mathlib.Core.Path.{◌≡◌, refl}
use mathlib.Core.Bool.{Bool, true, false, cond}
use mathlib.Core.List.{List}
use lib.Dec.{eqb}
use Rattle.rfc6733.specs.Value.{data_as}
use Rattle.record.specs.Value.{Value}
use Rattle.record.specs.Kinds.{grouped}
use Rattle.rfc6733.specs.Dictionary.{family_address, bare_address}
use Rattle.rfc6733.proofs.KindsRead.{Kind, kind_read, bare_kind, family_kind}
use Rattle.attribute.specs.declared.Dictionary.{Dictionary}
use Rattle.attribute.specs.ByTable.{address_by, dictionary_of}

-- a kind that is not Grouped
abbrev pub Other : ℕ → Type 0
Other k = eqb k grouped ≡ false

pub other_read : (k : ℕ) → Other k → (s : List ℕ) (as_address : List ℕ → Value) → Kind Other (as_address s) → Kind Other (data_as as_address k s)
other_read = kind_read Other refl

-- an Address, with its family or without
pub other_address : (d : Dictionary) (s : List ℕ) → Kind Other ((dictionary_of d).as_address s)
unfolding dictionary_of address_by
other_address d s = by d.families
  where
    by : (families : Bool) → Kind Other (cond families family_address bare_address s)
    by true = family_kind Other refl refl s
    by false = bare_kind Other refl refl s
