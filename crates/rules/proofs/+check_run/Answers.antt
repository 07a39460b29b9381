-- The recursion of `check_run` meets its contract: each exit and each turn is a law of what the loop has passed of the
-- run (`Runs`). A group's members are a run one deeper, whose parent is the group.
use Prim.Native.Nat.{ℕ, ◌+◌, ◌*◌, ◌≤◌}
use mathlib.Core.Path.{sym, ◌∙◌}
use native.Mathlib.Omega.{arith}
use Rattle.std.proofs.lemmas.Result.{err_from_is_err_and}
use Rattle.record.specs.Table.{table_of}
use Rattle.record.proofs.Tables.{table_length}
use Rattle.round_trip.proofs.Rules.{keeps_good}
use Rattle.rfc6733.specs.Writer.{head_of}
use Rattle.rfc6733.proofs.Complete.{head}
use Rattle.rules.specs.Checking.{too_many, Checks}
use Rattle.rules.proofs.Runs as run
use Rattle.rules.proofs.Runs.{Stands, Keeps}
use Rattle.rules.proofs.+check_run.Goals as goal
use Rattle.rules.proofs.+check_run.Goals.{After-get-r, Else-not-keeps, In_ok-members, After-header_size}
use Rattle.rules.proofs.+check_run.Goals.{
  then-depth-r-via-then-depth-r,
  then-depth-r-via-else-depth-r+then-r-parent,
  then-depth-r-via-else-depth-r+else-r-parent+then-not-keeps,
}

-- the record that was read stands at the index
stands : (t : ℕ) (c : After-get-r t) → Stands (table_of c.args.table.now) c.loop-index.index c.get-r.result
stands t c =
    record {
      some = omega (arith, table_length c.args.table.now);
      here = run.at_index c.args.table.now c.loop-index.index (omega arith) c.get-r.ensures;
    }

-- it keeps all the rules
kept : (t : ℕ) (c : Else-not-keeps t) → Keeps c.args.available c.args.depth c.args.parent c.get-r.result
kept t c =
    record {
      level = omega arith;
      own = sym c.keeps.ensures ∙ c.if-not-keeps.false;
      parent_is = c.if-r-parent.false;
    }

-- where the members' run ended
past : (t : ℕ) (c : In_ok-members t) → c.loop-index.index + 1 ≤ c.in_ok-members.members.index
unfolding Checks
past t c = c.in_ok-members.ensures.0

-- and no sum with what it took wraps
sum_fits : (t : ℕ) (c : After-header_size t)
    → c.loop-index.size + c.header_size.result + c.in_ok-members.members.size ≤ 2 * too_many + 12
unfolding head_of Checks
sum_fits t c =
    omega (
      arith,
      c.loop-index.invariant.few,
      c.in_ok-members.ensures.1,
      c.header_size.ensures,
      (head c.get-r.result.flags).high,
    )

pub loop-index-init : goal.loop-index-init
loop-index-init t c = run.none_passed

-- ---- where it ends, and what stops it

pub returns : goal.returns
returns t c = run.ends_last c.loop-index.invariant (omega (arith, table_length c.args.table.now))

pub returns-then-r-depth : goal.returns-then-r-depth
returns-then-r-depth t c =
    run.ends_before c.loop-index.invariant (stands t (goal.at.returns-then-r-depth t c).After-get-r) (omega arith)

pub returns-then-depth-r : goal.returns-then-depth-r
returns-then-depth-r t c =
    let p = c.loop-index.invariant in
    let s = stands t (goal.at.returns-then-depth-r t c).After-get-r in
    elim c.then-depth-r.branch [
      | then-depth-r-via-then-depth-r b ↦ run.bad_depth p s b.if-depth-r.true
      | then-depth-r-via-else-depth-r+then-r-parent b ↦ run.bad_parent p s (omega arith) b.if-r-parent.true
      | then-depth-r-via-else-depth-r+else-r-parent+then-not-keeps b ↦
          run.bad_itself p s (omega arith) (sym b.keeps.ensures ∙ b.if-not-keeps.true)
    ]

pub returns-in_err-members : goal.returns-in_err-members
returns-in_err-members t c =
    let at = goal.at.returns-in_err-members t c in
    let back = err_from_is_err_and c.from_residual.result c.from_residual.ensures.1 in
    rw (back.1, back.2)
    (run.bad_member c.loop-index.invariant (stands t at.After-get-r) (kept t at.Else-not-keeps) c.if-r-eq-GROUPED.true _
    c.in_err-members.ensures)

-- ---- the next turn

pub overflow_add-depth : goal.overflow_add-depth
overflow_add-depth t c =
    let k = kept t (goal.at.overflow_add-depth t c).Else-not-keeps in
    omega (arith, (keeps_good _ _ _ k.own).most)

pub overflow_add-size : goal.overflow_add-size
overflow_add-size t c = omega (arith, sum_fits t (goal.at.overflow_add-size t c).After-header_size)

pub overflow_add-size-then-r-eq-GROUPED : goal.overflow_add-size-then-r-eq-GROUPED
overflow_add-size-then-r-eq-GROUPED t c =
    omega (arith, sum_fits t (goal.at.overflow_add-size-then-r-eq-GROUPED t c).After-header_size)

pub loop-index-smaller-then-r-eq-GROUPED : goal.loop-index-smaller-then-r-eq-GROUPED
loop-index-smaller-then-r-eq-GROUPED t c =
    omega (arith, past t (goal.at.loop-index-smaller-then-r-eq-GROUPED t c).In_ok-members)

pub loop-index-preserved-then-r-eq-GROUPED : goal.loop-index-preserved-then-r-eq-GROUPED
loop-index-preserved-then-r-eq-GROUPED t c =
    let at = goal.at.loop-index-preserved-then-r-eq-GROUPED t c in
    run.group_passed c.loop-index.invariant (stands t at.After-get-r) (kept t at.Else-not-keeps) c.if-r-eq-GROUPED.true _
    c.in_ok-members.ensures (omega (arith, c.capped-size.ensures, c.header_size.ensures))

pub loop-index-preserved : goal.loop-index-preserved
loop-index-preserved t c =
    let at = goal.at.loop-index-preserved t c in
    run.leaf_passed c.loop-index.invariant (stands t at.After-get-r) (kept t at.Else-not-keeps) c.if-r-eq-GROUPED.false
    (omega (arith, c.capped-size-else-r-eq-GROUPED.ensures))
