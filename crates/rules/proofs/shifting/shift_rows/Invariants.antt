-- The records passed are moved, and those from `index` on are as lent. The measure is how many are left.
use Prim.Native.Nat.{◌/◌, ◌≤◌}
use mathlib.Core.Path.{◌≡◌}
use mathlib.Core.Bool.{true}
use lib.ListN.{length}
use Rattle.record.specs.Record.{record_size}
use Rattle.record.specs.Table.{table_of}
use Rattle.record.proofs.Steps.{from}
use Rattle.rules.specs.Shifting.{all_fit_shifted, rows_moved}
use Rattle.rules.proofs.shifting.shift_rows.Given as goal

abbrev pub invariant-loop-index : goal.invariant-loop-index
invariant-loop-index l =
    (l.index ≤ length l.initial.table / record_size) × (l.table ≡ rows_moved l.bytes l.records l.index l.initial.table)
    × (all_fit_shifted l.bytes l.records (table_of (from l.initial.table l.index)) ≡ true)
