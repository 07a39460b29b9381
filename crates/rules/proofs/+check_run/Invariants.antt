-- What the loop has passed of a run keeps the rules and takes so many bytes. The measure is the number of records that
-- remain: it falls from record to record, and from a group to its members.
use Prim.Native.Nat.{◌-◌, ◌/◌}
use lib.ListN.{length}
use Rattle.record.specs.Record.{record_size}
use Rattle.record.specs.Table.{table_of}
use Rattle.rules.proofs.Runs.{Passed}
use Rattle.rules.proofs.+check_run.Given as goal

abbrev pub decreases-check_run : goal.decreases-check_run
decreases-check_run l = length l.table.now / record_size - l.from

abbrev pub invariant-loop-index : goal.invariant-loop-index
invariant-loop-index l = Passed l.available l.from l.depth l.parent (table_of l.table) l.index l.size

abbrev pub decreases-loop-index : goal.decreases-loop-index
decreases-loop-index l = length l.table / record_size - l.index
