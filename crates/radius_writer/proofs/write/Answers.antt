-- `write` meets its contract: its tests are the refusals of the definition, in their order, and each refusal leaves before a
-- byte is put. The size that was measured is the packet's without its header, so what is put fits.
use Prim.Native.Nat.{◌+◌}
use mathlib.Core.Path.{◌≡◌, refl}
use native.Mathlib.Omega.{arith}
use lib.ListN.{length, length-drop}
use Rattle.octets.proofs.Lists.{rest}
use Rattle.refusal.proofs.Tests.{tests}
use Rattle.record.specs.Table.{table_of}
use Rattle.record.specs.Store.{output}
use Rattle.rfc2865.specs.Packet.{header_size}
use Rattle.rfc2865.specs.Writer.{table_bytes, written}
use Rattle.rfc2865.proofs.Rules.{Kept}
use Rattle.radius_size.specs.Sizing.{lengths}
use Rattle.radius_writer.specs.Answers.{header_as}
use Rattle.radius_writer.proofs.Lengths.{sixteen, total_length}
use Rattle.radius_writer.proofs.Writing.{all_kept, packet_put}
use Rattle.radius_writer.proofs.write.Goals as goal
use Rattle.radius_writer.proofs.write.Goals.{Else-kept-table, In_ok-size}

-- past the first test the table keeps the rules
kept : (c : Else-kept-table) → Kept (length c.args.pool.now) (table_of c.args.table.now)
kept c =
    let both = simp tests at c.if-kept-table.false in
    all_kept (length c.args.pool.now) c.args.table.now (omega arith)

-- so its packet is as long as its records say
total : (c : Else-kept-table)
    → length (table_bytes (header_as c.args.fields) c.args.table.now c.args.pool.now)
    ≡ header_size + lengths (table_of c.args.table.now)
total c =
    let told = sixteen c.args.fields _ c.well_formed.0 in
    total_length (header_as c.args.fields) told c.args.table.now c.args.pool.now (kept c)

-- as `size_run` has measured them
measured : (c : In_ok-size) → c.in_ok-size.size ≡ lengths (table_of c.args.table.now)
measured c = grind arith

pub returns-then-kept-table : goal.returns-then-kept-table
unfolding written output
returns-then-kept-table c = record { answer = grind arith; out = refl }

pub returns-in_err-size : goal.returns-in_err-size
unfolding written output
returns-in_err-size c =
    let n = total (goal.at.returns-in_err-size c).Else-kept-table in
    record { answer = grind arith; out = grind arith }

pub returns-then-out-total : goal.returns-then-out-total
unfolding written output
returns-then-out-total c =
    let n = total (goal.at.returns-then-out-total c).Else-kept-table in
    record { answer = grind arith; out = refl }

pub emit_run-requires : goal.emit_run-requires
emit_run-requires c =
    let at = goal.at.emit_run-requires c in
    let behind = length-drop header_size c.args.out.now in
    rw (rest c.args.out.now header_size (omega arith))
    record { kept = kept at.Else-kept-table; fits = omega (arith, measured at.In_ok-size) }

pub returns : goal.returns
unfolding written output
returns c =
    let at = goal.at.returns c in
    let n = total at.Else-kept-table in
    let told = sixteen c.args.fields _ c.well_formed.0 in
    let body = rw (rest c.args.out.now header_size (omega arith)) at c.emit_run.ensures in
    let size : header_size + c.in_ok-size.size ≡ header_size + lengths (table_of c.args.table.now) =
    omega (arith, measured at.In_ok-size) in
    record {
      answer = grind arith;
      out =
          packet_put (header_as c.args.fields) told c.args.table.now c.args.pool.now (kept at.Else-kept-table) c.args.out.now
          c.emit_run.new.out (header_size + c.in_ok-size.size) (omega arith) size body c.put.ensures;
    }
