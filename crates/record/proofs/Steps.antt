-- A loop over a table, record by record: the next is read from the part of the table that is lent, and the others are the table one
-- record further on.
use Prim.Native.Nat.{ℕ, ◌+◌, ◌*◌, ◌/◌, ◌-◌, ◌≤◌, ◌<◌}
use mathlib.Core.Path.{◌≡◌}
use mathlib.Core.List.{List, [], ◌∷◌}
use native.Mathlib.Omega.{arith}
use lib.ListN.{length, take, drop, length-drop}
use lib.Seq.{drop-drop}
use Rattle.octets.proofs.Lists.{rest}
use Rattle.record.specs.Record.{Record, record_size}
use Rattle.record.specs.Table.{entry_at, table_of}
use Rattle.record.proofs.Tables.{table_none, table_some}

-- the table from record k on
abbrev pub from : List ℕ → ℕ → List ℕ
from table k = drop (k * record_size) table

module _ (table : List ℕ) (k : ℕ) where
  pub none_left : length table / record_size ≤ k → table_of (from table k) ≡ []
  none_left h = table_none (from table k) (omega (arith, length-drop (k * record_size) table))

  pub next : {r : Record} → k < length table / record_size → r ≡ entry_at (take (length table - k * record_size) (from table k))
      → table_of (from table k) ≡ r ∷ table_of (from table (k + 1))
  next some read =
      let further : (k + 1) * record_size ≡ k * record_size + record_size = omega arith in
      let is = rw (rest table (k * record_size) (omega arith)) at read in
      rw (is, further, ← drop-drop record_size (k * record_size) table)
      (table_some (from table k) (omega (arith, length-drop (k * record_size) table)))
