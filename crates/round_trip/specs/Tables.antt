-- The runs of a table that a loop over it goes through.
use Rattle.std.specs.Prelude.{ℕ, List}
use Rattle.record.specs.Forest.{Forest, leading, forest}
use Rattle.record.specs.Table.{table_of}
use Rattle.round_trip.specs.Forests.{first}

-- the run of depth d or deeper that a table starts with; and its first record with its members
unfoldable pub run : ℕ → List ℕ → Forest
run d s = leading d (forest (table_of s))

unfoldable pub one : List ℕ → Forest
one s = first (forest (table_of s))
