-- `put_records` meets its contract: a chunk is the next record, whose line is the next piece of what is left.
use Prim.Native.Nat.{ℕ}
use mathlib.Core.Path.{ap, ◌∙◌}
use mathlib.Core.List.{List, ◌++◌}
use native.Mathlib.Omega.{arith}
use lib.ListN.{length, length-append}
use Rattle.std.specs.Iterator.Adapters.{take_source, take_count}
use Rattle.std.specs.Slice.Iter.{chunks_exact_rest}
use Rattle.rfc6733.specs.Dump.{record_line, line}
use Rattle.record.specs.Record.{record_at}
use Rattle.lines.specs.Text.{records_text}
use Rattle.lines.proofs.Lines.{record_first}
use Rattle.lines.proofs.Puts.{Passed, none_passed, passed}
use Rattle.lines.proofs.put_records.Goals as goal
use Rattle.lines.proofs.put_records.Goals.{In-Some}

pub loop-row-init : goal.loop-row-init
loop-row-init c =
    let e = c.into_iter-row-iterator.ensures.into_iter_gives in
    rw (e, c.take-row-items.ensures.source, c.take-row-items.ensures.count, c.chunks_exact.ensures.rest)
    record { cut = c.chunks_exact.ensures.size; stored = c.requires.stored; passed = none_passed _ _ c.requires.fits }

-- the line of the record in this chunk, and the lines that are left after it
abbrev piece : In-Some → List ℕ
piece c = line (record_line (record_at c.in-Some.row.now))

abbrev others : In-Some → List ℕ
others c = records_text (take_count c.next.new.self) (chunks_exact_rest (take_source c.next.new.self))

next : (c : In-Some)
    → Passed (records_text c.args.records c.args.table.now) (piece c ++ others c) c.args.out.now c.loop-row.out c.loop-row.at
next c =
    let step = c.in-Some.ensures.steps in
    let whole = step.0.1.1 ∙ c.loop-row.invariant.cut in
    rw (record_first _ _ _ c.in-Some.row.now _ step.1 step.0.1.0 whole) at c.loop-row.invariant.passed

pub put_record-at-requires : goal.put_record-at-requires
put_record-at-requires c =
    let n = next (goal.at.put_record-at-requires c).In-Some in
    grind (arith, length-append {A = ℕ})

pub overflow_add-at : goal.overflow_add-at
overflow_add-at c =
    let n = next (goal.at.overflow_add-at c).In-Some in
    grind (arith, length-append {A = ℕ})

pub loop-row-preserved : goal.loop-row-preserved
loop-row-preserved c =
    let step = c.in-Some.ensures.steps in
    record {
      cut = step.0.0 ∙ c.loop-row.invariant.cut;
      stored = omega (arith, step.1, simp length-append at (ap length step.0.1.0), step.0.1.1);
      passed = passed _ _ (next (goal.at.loop-row-preserved c).In-Some) c.put_record-at.ensures;
    }
