-- One AVP by its code, its vendor and its data: its value, and the run that is entered in it. The contracts of the readers say
-- what they do in these words; `proofs/Alone` shows that they are the words of the records.
use Rattle.std.specs.Prelude.{ℕ, cond, ◌&&◌, List, eqb}
use Rattle.octets.specs.Run.{Tree, done, tree}
use Rattle.rfc6733.specs.Value.{data_as}
use Rattle.record.specs.Value.{Value}
use Rattle.record.specs.Kinds.{grouped}
use Rattle.rfc6733.specs.Dictionary.{Dictionary}
use Rattle.rfc6733.specs.Records.{avps, tiling, group_value}

-- the value, that of a group being its payload's
unfoldable pub value_in : Dictionary → ℕ → ℕ → List ℕ → Value
value_in D code vendor s =
    cond (eqb (D.kind code vendor) grouped) (group_value D (tree (avps D) s)) (data_as D.as_address (D.kind code vendor) s)

-- the run that is entered: that of a group that tiles, and else none
unfoldable pub entered : Dictionary → ℕ → ℕ → List ℕ → Tree
entered D code vendor s = cond (eqb (D.kind code vendor) grouped && tiling s) (tree (avps D) s) done
