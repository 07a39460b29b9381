-- What the functions that put AVPs ask for, and what they leave.
use Rattle.std.specs.Prelude.{ℕ, ◌+◌, ◌≤◌, ◌≡◌, List, length}
use Rattle.octets.specs.Octets.{over}
use Rattle.record.specs.Record.{Record}
use Rattle.record.specs.Forest.{Forest}
use Rattle.record.specs.Table.{table_of}
use Rattle.rfc6733.specs.Writer.{forest_bytes, most24}
use Rattle.round_trip.specs.Forests.{count}
use Rattle.round_trip.specs.Rules.{Leaf, Valid}
use Rattle.writer.specs.declared.emit.Taken.{Taken}

-- ---- a record that is no group

-- its data are there, and its AVP fits the room
pub record LeafRoom (r : Record) (pool : List ℕ) (room : ℕ) : Type 0 where
  pub leaf : Leaf (length pool) r
  pub fits : r.length + r.padding ≤ room

-- ---- a run of a table

-- the table is valid at a depth, and the bytes of f fit the room and a length
pub record Ready (f : Forest) (depth : ℕ) (table pool : List ℕ) (room : ℕ) : Type 0 where
  pub valid : Valid depth (length pool) (table_of table)
  pub fits : length (forest_bytes pool f) ≤ room
  pub short : length (forest_bytes pool f) ≤ most24

-- the records of f were taken, and its bytes put
pub record Done (f : Forest) (pool : List ℕ) (t : Taken) (before after : List ℕ) : Type 0 where
  pub records_are : t.records ≡ count f
  pub size_is : t.size ≡ length (forest_bytes pool f)
  pub out_is : after ≡ over (forest_bytes pool f) before
