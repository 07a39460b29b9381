-- `keepers` meets its contract: a record that keeps the rules is one more, and one that breaks them is none.
use mathlib.Core.Path.{◌≡◌, sym, ap, ◌∙◌}
use mathlib.Core.List.{◌∷◌}
use native.Mathlib.Omega.{arith}
use Rattle.std.specs.Slice.Iter.{chunks_exact_rest}
use Rattle.record.specs.Table.{table_of}
use Rattle.record.proofs.Chunks.{turn, ended}
use Rattle.record.proofs.Tables.{table_length}
use Rattle.rfc2865.specs.Writer.{keepers}
use Rattle.rfc2865.proofs.Rules.{keepers_most}
use Rattle.radius_rules.proofs.keepers.Goals as goal
use Rattle.radius_rules.proofs.keepers.Goals.{After-get-r}

-- those that keep the rules from the record that was read on
from_here : (c : After-get-r)
    → keepers c.args.available (table_of (chunks_exact_rest c.loop-row.row-iterator))
    ≡ keepers c.args.available (c.get-r.result ∷ table_of (chunks_exact_rest c.next.new.self))
from_here c =
    let step = c.in-Some.ensures.steps in
    rw (c.get-r.ensures)
    (ap (keepers c.args.available) (turn c.loop-row.row-iterator c.next.new.self c.in-Some.row c.loop-row.invariant.cut step))

pub returns-then-not-keeps : goal.returns-then-not-keeps
returns-then-not-keeps c =
    let broken = sym c.keeps.ensures ∙ c.if-not-keeps.true in
    omega (arith, c.loop-row.invariant.sum, rw broken at (from_here (goal.at.returns-then-not-keeps c).After-get-r))

pub overflow_add-kept : goal.overflow_add-kept
overflow_add-kept c =
    let kept = sym c.keeps.ensures ∙ c.if-not-keeps.false in
    let table = c.args.table.now in
    let most = keepers_most c.args.available (table_of table) in
    let here = rw kept at (from_here (goal.at.overflow_add-kept c).After-get-r) in
    omega (arith, c.loop-row.invariant.sum, here, most, table_length table)

pub loop-row-preserved : goal.loop-row-preserved
loop-row-preserved c =
    let kept = sym c.keeps.ensures ∙ c.if-not-keeps.false in
    let here = rw kept at (from_here (goal.at.loop-row-preserved c).After-get-r) in
    record { cut = c.in-Some.ensures.steps.0 ∙ c.loop-row.invariant.cut; sum = omega (arith, c.loop-row.invariant.sum, here) }

pub returns : goal.returns
returns c =
    let step = c.in-None.ensures.steps in
    let none =
    ap (keepers c.args.available)
    (ended c.loop-row.row-iterator c.next.new.self c.loop-row.invariant.cut step)
    in
    omega (arith, c.loop-row.invariant.sum, none)
