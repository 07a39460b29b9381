-- The attributes of the records passed stand at the front of the output (`Going`), and what is left of the table is cut into
-- records.
use mathlib.Core.Path.{◌≡◌}
use Rattle.std.specs.Slice.Iter.{chunks_exact_rest, chunks_exact_size}
use Rattle.record.specs.Record.{record_size}
use Rattle.record.specs.Table.{table_of}
use Rattle.radius_writer.proofs.Runs.{Going}
use Rattle.radius_writer.proofs.emit.emit_run.Given as goal

abbrev pub invariant-loop-row : goal.invariant-loop-row
invariant-loop-row l =
    record {
      cut : chunks_exact_size l.row-iterator ≡ record_size;
      going : Going l.pool (table_of l.table) (table_of (chunks_exact_rest l.row-iterator)) l.size l.initial.out l.out;
    }
