-- From a decoded message back to what the writer takes: the header's fields, and the records of a run as a forest.
use Rattle.std.specs.Prelude.{ℕ, ◌+◌, ◌≤◌, ◌≡◌, false, cond, List, length, eqb}
use Rattle.octets.specs.Run.{Tree, done, broken, plain, group, tiles}
use Rattle.rfc6733.specs.Header.{Header}
use Rattle.rfc6733.specs.Avp.{flags, head_size}
use Rattle.record.specs.Value.{Value}
use Rattle.record.specs.Kinds.{grouped, time}
use Rattle.rfc6733.specs.Dictionary.{Dictionary}
use Rattle.rfc6733.specs.Records.{value_of, group_value, record_of}
use Rattle.record.specs.Forest as table
use Rattle.record.specs.Forest.{Forest, none}
use Rattle.rfc6733.specs.Writer.{Fields}
use Rattle.record.specs.Table.{bare}

-- the writer sets version and length itself
unfoldable pub fields_of : Header → Fields
fields_of h = record { flags = h.flags; code = h.code; app_id = h.app_id; hop_id = h.hop_id; end_id = h.end_id }

-- a value of one of the kinds other than Grouped
pub record Ungrouped (v : Value) : Type 0 where
  pub low : v.kind ≤ time
  pub other : eqb v.kind grouped ≡ false

-- A dictionary whose kinds are 0 to 14, and to which an Address is no group.
pub record Lawful (D : Dictionary) : Type 0 where
  pub kinds : (c v : ℕ) → D.kind c v ≤ time
  pub addresses : (s : List ℕ) → Ungrouped (D.as_address s)

-- the records of a run, with the members of each group under it
abbrev pub forest_of : Dictionary → ℕ → ℕ → Tree → Forest
forest_of D place depth done = none
forest_of D place depth broken = none
forest_of D place depth (plain a rest) =
    table.node (bare (record_of place depth a (value_of D a))) none (forest_of D (place + length a) depth rest)
forest_of D place depth (group a inner rest) =
    table.node (bare (record_of place depth a (group_value D inner)))
    (cond (tiles inner) (forest_of D (place + head_size (flags a)) (depth + 1) inner) none)
    (forest_of D (place + length a) depth rest)
