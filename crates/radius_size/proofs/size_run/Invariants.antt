-- The lengths of the whole table are those that were summed up and those of what is left, which is cut into records.
use Prim.Native.Nat.{◌+◌, ◌≤◌}
use mathlib.Core.Path.{◌≡◌}
use Rattle.std.specs.Slice.Iter.{chunks_exact_rest, chunks_exact_size}
use Rattle.record.specs.Record.{record_size}
use Rattle.record.specs.Table.{table_of}
use Rattle.radius_size.specs.Sizing.{lengths}
use Rattle.radius_size.proofs.size_run.Given as goal

abbrev pub invariant-loop-row : goal.invariant-loop-row
invariant-loop-row l =
    record {
      cut : chunks_exact_size l.row-iterator ≡ record_size;
      fits : l.size ≤ l.most;
      sum : lengths (table_of l.table) ≡ l.size + lengths (table_of (chunks_exact_rest l.row-iterator));
    }
