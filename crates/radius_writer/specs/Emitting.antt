-- What the functions that put attributes ask for.
use Rattle.std.specs.Prelude.{ℕ, ◌+◌, ◌≤◌, ◌≡◌, true, List, length}
use Rattle.record.specs.Record.{Record}
use Rattle.record.specs.Table.{Every}
use Rattle.rfc2865.specs.Attribute.{head_size, most_length}
use Rattle.rfc2865.specs.Writer.{stated_data, keeps}
use Rattle.radius_size.specs.Sizing.{lengths}

-- of the rules of a record those that its attribute takes, and that it fits the output
pub record Ready (r : Record) (pool out : List ℕ) : Type 0 where
  pub code_fits : r.code ≤ 255
  pub least : head_size ≤ r.length
  pub most : r.length ≤ most_length
  pub within : r.place + stated_data r ≤ length pool
  pub fits : r.length ≤ length out

-- all records of a table keep the rules, and their attributes fit
pub record AllReady (rs : List Record) (pool out : List ℕ) : Type 0 where
  pub kept : Every (λ r. keeps (length pool) r ≡ true) rs
  pub fits : lengths rs ≤ length out
