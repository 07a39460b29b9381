-- `size_run` meets its contract: the sum is over where the next length does not fit.
use Prim.Native.Nat.{◌+◌}
use mathlib.Core.Path.{◌≡◌, ap, ◌∙◌}
use native.Mathlib.Omega.{arith}
use borrow.Author.Tests.{lt-ltb, le-ltb}
use Rattle.std.specs.Slice.Iter.{chunks_exact_rest}
use Rattle.record.specs.Table.{table_of}
use Rattle.record.proofs.Chunks.{turn, ended}
use Rattle.radius_size.specs.Sizing.{lengths}
use Rattle.radius_size.proofs.size_run.Goals as goal
use Rattle.radius_size.proofs.size_run.Goals.{After-get-length}

-- the lengths from the record that was read on
from_here : (c : After-get-length)
    → lengths (table_of (chunks_exact_rest c.loop-row.row-iterator))
    ≡ c.get-length.result.length + lengths (table_of (chunks_exact_rest c.next.new.self))
from_here c =
    let step = c.in-Some.ensures.steps in
    rw (c.get-length.ensures)
    (ap lengths (turn c.loop-row.row-iterator c.next.new.self c.in-Some.row c.loop-row.invariant.cut step))

pub returns-then-most-size : goal.returns-then-most-size
returns-then-most-size c =
    let here = from_here (goal.at.returns-then-most-size c).After-get-length in
    rw (lt-ltb c.args.most (lengths (table_of c.args.table.now)) (omega arith))

pub loop-row-preserved : goal.loop-row-preserved
loop-row-preserved c =
    let here = from_here (goal.at.loop-row-preserved c).After-get-length in
    record { cut = c.in-Some.ensures.steps.0 ∙ c.loop-row.invariant.cut; fits = omega arith; sum = omega arith }

pub returns : goal.returns
returns c =
    let step = c.in-None.ensures.steps in
    let none = ap lengths (ended c.loop-row.row-iterator c.next.new.self c.loop-row.invariant.cut step) in
    let all : lengths (table_of c.args.table.now) ≡ c.loop-row.size = omega arith in
    rw (all, le-ltb c.args.most c.loop-row.size (omega arith))
