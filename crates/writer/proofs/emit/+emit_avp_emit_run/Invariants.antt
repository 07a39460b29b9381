-- A run is the records put so far, whose bytes stand at the front of the output, and what is left of the table, whose
-- bytes fit what is left of the output. The measure is what is left of the table, twice, and one more for a run: it
-- falls from a run to its records and from a group inwards.
use Prim.Native.Nat.{◌+◌, ◌-◌, ◌*◌, ◌≤◌}
use mathlib.Core.Path.{◌≡◌}
use lib.ListN.{length}
use Rattle.record.specs.Record.{record_size}
use Rattle.round_trip.specs.Tables.{run}
use Rattle.writer.proofs.Runs.{Going}
use Rattle.writer.proofs.Steps.{from}
use Rattle.writer.proofs.emit.+emit_avp_emit_run.Given as goal

abbrev pub decreases-emit_avp : goal.decreases-emit_avp
decreases-emit_avp l = 2 * length l.table.now

abbrev pub decreases-emit_run : goal.decreases-emit_run
decreases-emit_run l = 2 * length l.table.now + 1

abbrev pub invariant-emit_run-loop-records : goal.invariant-emit_run-loop-records
invariant-emit_run-loop-records l =
    (l.records * record_size ≤ length l.table)
    × (length l.out ≡ length l.initial.out)
    × Going l.pool l.depth (run l.depth l.table) (from l.table l.records) l.records l.size l.initial.out l.out

abbrev pub decreases-emit_run-loop-records : goal.decreases-emit_run-loop-records
decreases-emit_run-loop-records l = length l.table - l.records * record_size
