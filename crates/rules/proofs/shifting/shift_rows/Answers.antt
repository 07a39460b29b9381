-- `shift_rows` meets its contract: the records passed are moved, and those from `index` on are as lent.
use Prim.Native.Nat.{ℕ, ◌+◌, ◌-◌, ◌*◌, ◌/◌}
use mathlib.Core.Path.{◌≡◌, refl, ap, ◌∙◌}
use mathlib.Core.Bool.{true}
use native.Mathlib.Omega.{arith}
use lib.ListN.{length, take, drop}
use Rattle.record.specs.Record.{record_size, record_at}
use Rattle.record.specs.Table.{table_of}
use Rattle.record.proofs.Steps.{from}
use Rattle.rules.specs.Shifting.{fits_shifted, all_fit_shifted, rows_moved}
use Rattle.rules.proofs.Rows.{next_fits, row_moved}
use Rattle.rules.proofs.shifting.shift_rows.Goals as goal
use Rattle.rules.proofs.shifting.shift_rows.Goals.{In-loop-index}

next : (c : In-loop-index)
    → let at = c.loop-index.index * record_size in
    (fits_shifted c.args.bytes c.args.records (record_at (take (at + record_size - at) (drop at c.loop-index.table)))
    ≡ true)
    × (all_fit_shifted c.args.bytes c.args.records (table_of (from c.args.table.now (c.loop-index.index + 1))) ≡ true)
next c =
    next_fits _ _ c.loop-index.index c.args.table.now c.loop-index.table (omega arith) c.loop-index.invariant.1
    c.loop-index.invariant.2

pub loop-index-init : goal.loop-index-init
loop-index-init c = (omega arith, refl, c.requires)

pub shift_row-requires : goal.shift_row-requires
shift_row-requires c = (next (goal.at.shift_row-requires c).In-loop-index).0

pub loop-index-preserved : goal.loop-index-preserved
loop-index-preserved c = (
  omega arith,
  row_moved _ _ c.loop-index.index c.args.table.now c.loop-index.table (omega arith) c.loop-index.invariant.1 _
      c.shift_row.ensures,
  (next (goal.at.loop-index-preserved c).In-loop-index).1,
)

pub returns : goal.returns
returns c =
    let all : c.loop-index.index ≡ length c.args.table.now / record_size = omega (arith, c.loop-index.invariant.0) in
    c.loop-index.invariant.1 ∙ ap (λ (n : ℕ). rows_moved c.args.bytes c.args.records n c.args.table.now) all
