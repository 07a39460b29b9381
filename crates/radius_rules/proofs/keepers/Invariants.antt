-- The records passed keep the rules, so those of the whole table are as many as were passed and those of what is left, which is cut
-- into records.
use Prim.Native.Nat.{◌+◌}
use mathlib.Core.Path.{◌≡◌}
use Rattle.std.specs.Slice.Iter.{chunks_exact_rest, chunks_exact_size}
use Rattle.record.specs.Record.{record_size}
use Rattle.record.specs.Table.{table_of}
use Rattle.rfc2865.specs.Writer.{keepers}
use Rattle.radius_rules.proofs.keepers.Given as goal

abbrev pub invariant-loop-row : goal.invariant-loop-row
invariant-loop-row l =
    record {
      cut : chunks_exact_size l.row-iterator ≡ record_size;
      sum : keepers l.available (table_of l.table) ≡ l.kept + keepers l.available (table_of (chunks_exact_rest l.row-iterator));
    }
