-- What stands in a packet and in a table, whatever their places: type, length and value of each attribute.
use Rattle.std.specs.Prelude.{ℕ, List, map}
use Rattle.record.specs.Record.{Record}
use Rattle.rfc2865.specs.Attribute as attribute
use Rattle.rfc2865.specs.Writer.{data_in}

pub record Seen : Type 0 where
  pub code : ℕ
  pub length : ℕ
  pub body : List ℕ

-- of an attribute's own bytes
unfoldable pub seen_in : List ℕ → Seen
seen_in a = record { code = attribute.code a; length = attribute.attribute_length a; body = attribute.payload a }

-- of a record, whose place points into a pool
unfoldable pub seen_at : List ℕ → Record → Seen
seen_at pool r = record { code = r.code; length = r.length; body = data_in pool r }

-- of a table
abbrev pub seen : List ℕ → List Record → List Seen
seen pool = map (seen_at pool)
