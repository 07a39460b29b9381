-- A dictionary as the code has it: a table of kinds by code, and beside it whether vendors count and how an Address is
-- read. Any bytes are such a table.
use Rattle.std.specs.Prelude.{ℕ, Bool, true, false, not, cond, ◌||◌, List, get_or, leb, eqb}
use Rattle.std.specs.Borrow.{Bor}
use Rattle.record.specs.Kinds.{unhandled, time}
use Rattle.record.specs.Value.{Value}
use Rattle.rfc6733.specs.Dictionary as rfc
use Rattle.rfc6733.specs.Dictionary.{family_address, bare_address}
use Rattle.attribute.specs.declared.Dictionary.{Dictionary}
use Rattle.attribute.specs.declared.Reading.{Reading}
use Rattle.attribute.specs.declared.Reading.TheVariants.{Sawp, Rfc}

-- a number that is no kind counts as Unhandled
abbrev pub known : ℕ → ℕ
known k = cond (leb k time) k unhandled

-- the table has the codes that are no vendor's, and where vendors don't count all of them; a code past it is Unhandled
unfoldable pub kind_by : Bool → List ℕ → ℕ → ℕ → ℕ
kind_by vendors ks c v = cond (not vendors || eqb v 0) (known (get_or ks c unhandled)) unhandled

unfoldable pub address_by : Bool → List ℕ → Value
address_by families = cond families family_address bare_address

unfoldable pub dictionary_of : Dictionary → rfc.Dictionary
dictionary_of d = record { kind = kind_by d.vendors d.kinds.now; as_address = address_by d.families }

-- a reading's dictionary over a table
unfoldable pub read_by : Reading → Bor (List ℕ) → Dictionary
read_by Sawp ks = record { kinds = ks; vendors = false; families = false }
read_by Rfc ks = record { kinds = ks; vendors = true; families = true }
