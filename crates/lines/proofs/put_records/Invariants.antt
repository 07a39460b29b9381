-- The lines of the records passed are put, and what is left of the text is the lines of the others. They stand at the front of what is
-- still to be cut into records.
use Prim.Native.Nat.{◌*◌, ◌≤◌}
use mathlib.Core.Path.{◌≡◌}
use lib.ListN.{length}
use Rattle.std.specs.Iterator.Adapters.{take_source, take_count}
use Rattle.std.specs.Slice.Iter.{chunks_exact_rest, chunks_exact_size}
use Rattle.record.specs.Record.{record_size}
use Rattle.lines.specs.Text.{records_text}
use Rattle.lines.proofs.Puts.{Passed}
use Rattle.lines.proofs.put_records.Given as goal

abbrev pub invariant-loop-row : goal.invariant-loop-row
invariant-loop-row l =
    let chunks = take_source l.row-iterator in
    let left = take_count l.row-iterator in
    record {
      cut : chunks_exact_size chunks ≡ record_size;
      stored : left * record_size ≤ length (chunks_exact_rest chunks);
      passed : Passed (records_text l.records l.table) (records_text left (chunks_exact_rest chunks)) l.fn.out l.out l.at;
    }
