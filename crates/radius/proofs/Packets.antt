-- What the code reads of a packet and counts of its body, for `grind`.
use Prim.Native.Nat.{ℕ}
use mathlib.Core.Path.{◌≡◌, refl}
use mathlib.Core.Bool.{true}
use mathlib.Core.List.{List, [], ◌∷◌}
use lib.ListN.{length, get_or}
use Rattle.octets.specs.Octets.{be}
use Rattle.octets.specs.Run.{tree, tiles, tried, items}
use Rattle.octets.proofs.Numbers.{one_byte}
use Rattle.rfc2865.specs.Attribute.{attributes}
use Rattle.rfc2865.proofs.Tried.{few, records_length}

-- the two bytes of its length
pub stated : (s : List ℕ) → be 2 (get_or s 2 0 ∷ get_or s 3 0 ∷ []) 0 ≡ be 2 s 2
unfolding be
stated s = refl

-- as many attributes are tried of a body that tiles as it has
pub all_tried : (s : List ℕ) → tiles (tree attributes s) ≡ true → tried (tree attributes s) ≡ length (items (tree attributes s))
all_tried s tiled = (few s).own tiled

pub ruleset counted = (all_tried, records_length, one_byte)
