-- `write` meets its contract: the answer is asked for before a byte is put, and where it is a size, the message has
-- that size and fits. Its AVPs are put into the part behind the header, and then the header into the part before them.
use Prim.Native.Nat.{ℕ, ◌+◌, ◌-◌, ◌≤◌}
use mathlib.Core.Path.{◌≡◌, refl, sym}
use mathlib.Core.List.{List}
use native.Mathlib.Omega.{arith}
use lib.ListN.{length, take, drop, length-take, length-drop}
use borrow.Rule.Slice.PartMut.{put_mid, same_len_mid}
use Rattle.octets.specs.Octets.{pack, put_all}
use Rattle.octets.proofs.Lists.{rest}
use Rattle.octets.proofs.Numbers.{length_pack}
use Rattle.refusal.specs.Answer.{accepted}
use Rattle.rfc6733.specs.Writer as definition
use Rattle.record.specs.Store.{output}
use Rattle.std.proofs.lemmas.Result.{err_from_is_err_and}
use Rattle.round_trip.specs.Tables.{run}
use Rattle.round_trip.proofs.Written.{Writable, written_writable}
use Rattle.writer.specs.Answers.{fields_as}
use Rattle.writer.specs.Emitting.{Done}
use Rattle.writer.proofs.Parts.{put_front}
use Rattle.writer.proofs.Message.{message_long, message_put}
use Rattle.writer.proofs.write.Goals as goal
use Rattle.writer.proofs.write.Goals.{In_ok-total, After-emit_run}

-- the answer is a size
told : (c : In_ok-total)
    → accepted c.in_ok-total.total
    ≡ definition.written (fields_as c.args.fields) c.args.table.now c.args.pool.now (length c.args.out.now)
unfolding fields_as
told c = c.in_ok-total.ensures (fields_as c.args.fields) c.args.pool.now refl refl

writable : (c : In_ok-total)
    → Writable (fields_as c.args.fields) c.args.table.now c.args.pool.now (length c.args.out.now)
    × (length (definition.table_bytes (fields_as c.args.fields) c.args.table.now c.args.pool.now) ≡ c.in_ok-total.total)
writable c =
    written_writable (fields_as c.args.fields) c.args.table.now c.args.pool.now (length c.args.out.now)
    c.in_ok-total.total (sym (told c))

-- the room for the AVPs
record Fit (before avps : List ℕ) (total : ℕ) : Type 0 where
  pub long : total ≡ 20 + length avps
  pub short : total ≤ definition.most24
  pub fits : total ≤ length before

fit : (c : In_ok-total)
    → Fit c.args.out.now (definition.forest_bytes c.args.pool.now (run 1 c.args.table.now)) c.in_ok-total.total
fit c =
    let (w, is) = writable c in
    omega (arith, message_long (fields_as c.args.fields) c.args.table.now c.args.pool.now w.valid, w.short, w.fits)

-- the output with the AVPs is still as long as it was
module _ (c : After-emit_run) (room : 20 ≤ length c.args.out.now) where
  members_put : Done (run 1 c.args.table.now) c.args.pool.now c.emit_run.result (drop 20 c.args.out.now) c.emit_run.new.out
  members_put = rw (rest c.args.out.now 20 room) at c.emit_run.ensures

  abbrev avps_put : List ℕ
  avps_put = put_mid 20 (length c.args.out.now - 20) c.args.out.now c.emit_run.new.out

  header_room : 20 ≤ length avps_put
  header_room =
      let out = c.args.out.now in
      let kept = same_len_mid 20 (length out - 20) out c.emit_run.new.out c.emit_run.auto.out in
      omega arith

pub returns-in_err-total : goal.returns-in_err-total
unfolding output fields_as
returns-in_err-total c =
    let back = err_from_is_err_and c.from_residual.result c.from_residual.ensures.1 in
    rw (back.1, back.2)
    (record { answer = c.in_err-total.ensures (fields_as c.args.fields) c.args.pool.now refl refl; out = refl })

pub slice_bounds-emit_run-count : goal.slice_bounds-emit_run-count
slice_bounds-emit_run-count c = omega (arith, fit (goal.at.slice_bounds-emit_run-count c).In_ok-total)

pub slice_bounds-emit_run-start : goal.slice_bounds-emit_run-start
slice_bounds-emit_run-start c = omega (arith, fit (goal.at.slice_bounds-emit_run-start c).In_ok-total)

pub emit_run-requires : goal.emit_run-requires
emit_run-requires c =
    let k = (goal.at.emit_run-requires c).In_ok-total in
    let l = length-drop 20 c.args.out.now in
    let f = fit k in
    rw (rest c.args.out.now 20 (omega arith)) (record { valid = (writable k).0.valid; fits = omega arith; short = omega arith })

pub overflow_cast-total : goal.overflow_cast-total
overflow_cast-total c = omega (arith, fit (goal.at.overflow_cast-total c).In_ok-total)

pub slice_bounds-put_header-end : goal.slice_bounds-put_header-end
slice_bounds-put_header-end c =
    let at = goal.at.slice_bounds-put_header-end c in
    header_room at.After-emit_run (omega (arith, fit at.In_ok-total))

pub slice_bounds-put_header-end-2 : goal.slice_bounds-put_header-end-2
slice_bounds-put_header-end-2 c =
    let at = goal.at.slice_bounds-put_header-end-2 c in
    simp length-take (omega (arith, header_room at.After-emit_run (omega (arith, fit at.In_ok-total))))

pub returns : goal.returns
unfolding output fields_as
returns c =
    let at = goal.at.returns c in
    let k = at.In_ok-total in
    let ran = at.After-emit_run in
    let f = fields_as c.args.fields in
    let total = c.in_ok-total.total in
    let (w, is) = writable k in
    let room : 20 ≤ length c.args.out.now = omega (arith, fit k) in
    let front = pack (definition.header_fields f total) in
    let header : _ ≡ put_all front (take 20 (avps_put ran room)) = rw c.header.ensures at c.put_header.ensures in
    let whole = put_front front (avps_put ran room) (length_pack (definition.header_fields f total)) (header_room ran room) header in
    record {
      answer = told k;
      out = message_put f _ _ w.valid _ _ _ _ _ room is (members_put ran room) whole;
    }
