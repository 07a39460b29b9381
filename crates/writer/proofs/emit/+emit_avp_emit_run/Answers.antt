-- The cycle of `emit_avp` and `emit_run` meets its contracts. The members of a group are put into the part after its
-- header, and the header before them; its length is theirs and its own size.
use Prim.Native.Nat.{ℕ, ◌+◌, ◌-◌, ◌*◌, ◌≤◌}
use mathlib.Core.Path.{◌≡◌, refl, sym, ◌∙◌}
use mathlib.Core.List.{List}
use native.Mathlib.Omega.{arith}
use lib.ListN.{length, drop, length-take, length-drop}
use borrow.Rule.Slice.PartMut.{put_mid, same_len_mid}
use Rattle.octets.specs.Octets.{pack}
use Rattle.octets.proofs.Lists.{rest}
use Rattle.record.specs.Record.{record_size}
use Rattle.rfc6733.specs.Writer.{head_fields}
use Rattle.round_trip.specs.Tables.{run, one}
use Rattle.round_trip.proofs.Lengths.{head_length}
use Rattle.writer.specs.Emitting.{Done}
use Rattle.writer.proofs.Parts.{put_front}
use Rattle.writer.proofs.Runs.{none_put, one_put, all_put, group_long, group_done, leaf_room, leaf_done}
use Rattle.writer.proofs.Steps.{AtFront, at_front, members, from, bytes_size, ends, ends_above, Step, step}
use Rattle.writer.proofs.emit.+emit_avp_emit_run.Goals as goal
use Rattle.writer.proofs.emit.+emit_avp_emit_run.Goals.{
  emit_avp-Start,
  emit_avp-After-header_size-header_size,
  emit_avp-After-emit_run-members,
  emit_run-At-loop-records,
  emit_run-Else-r-depth,
  emit_run-After-emit_avp-t,
}

-- ---- `emit_avp`

-- the record at the front of the table
front : (t : ℕ) (c : emit_avp-Start t) → AtFront (length c.args.pool.now) c.args.table.now c.args.r
front t c = at_front _ _ _ c.requires.r_value.0 c.requires.r_value.1 c.requires.ready.valid

-- a group, whose header's size is known
module _ (t : ℕ) (c : emit_avp-After-header_size-header_size t) where
  with_members : bytes_size c.args.pool.now (one c.args.table.now)
      ≡ c.header_size-header_size.result + bytes_size c.args.pool.now (members c.args.r.depth c.args.table.now)
  with_members =
      let f = at_front _ _ _ c.requires.r_value.0 c.requires.r_value.1 c.requires.ready.valid in
      omega (arith, c.header_size-header_size.ensures, group_long c.args.pool.now f c.if-r-eq-GROUPED.true)

  header_fits : c.header_size-header_size.result ≤ length c.args.out.now
  header_fits = omega (arith, with_members, c.requires.ready)

-- one whose members are put
module _ (t : ℕ) (c : emit_avp-After-emit_run-members t) where
  abbrev header : ℕ
  header = c.header_size-header_size.result

  members_put : header ≤ length c.args.out.now
      → Done (members c.args.r.depth c.args.table.now) c.args.pool.now c.emit_run-members.result (drop header c.args.out.now)
      c.emit_run-members.new.out
  members_put h =
      rw (rest c.args.table.now record_size c.requires.r_value.1, rest c.args.out.now header h) at c.emit_run-members.ensures

  -- the output with the members is still as long as it was
  abbrev membered : List ℕ
  membered = put_mid header (length c.args.out.now - header) c.args.out.now c.emit_run-members.new.out

  membered_length : length membered ≡ length c.args.out.now
  membered_length =
      let out = c.args.out.now in
      same_len_mid header (length out - header) out c.emit_run-members.new.out c.emit_run-members.auto.out

pub emit_avp-overflow_add-r : goal.emit_avp-overflow_add-r
emit_avp-overflow_add-r t c = omega (arith, (front t (goal.at.emit_avp-overflow_add-r t c).Start).most)

pub emit_avp-slice_bounds-emit_run-count-then-r-eq-GROUPED : goal.emit_avp-slice_bounds-emit_run-count-then-r-eq-GROUPED
emit_avp-slice_bounds-emit_run-count-then-r-eq-GROUPED t c =
    header_fits t (goal.at.emit_avp-slice_bounds-emit_run-count-then-r-eq-GROUPED t c).After-header_size-header_size

pub emit_avp-slice_bounds-emit_run-start-then-r-eq-GROUPED : goal.emit_avp-slice_bounds-emit_run-start-then-r-eq-GROUPED
emit_avp-slice_bounds-emit_run-start-then-r-eq-GROUPED t c =
    header_fits t (goal.at.emit_avp-slice_bounds-emit_run-start-then-r-eq-GROUPED t c).After-header_size-header_size

pub emit_avp-emit_run-members-requires : goal.emit_avp-emit_run-members-requires
emit_avp-emit_run-members-requires t c =
    let at = goal.at.emit_avp-emit_run-members-requires t c in
    let f = front t at.Start in
    let h = c.header_size-header_size.result in
    let fits = header_fits t at.After-header_size-header_size in
    let sum = with_members t at.After-header_size-header_size in
    let l = length-drop h c.args.out.now in
    rw (rest c.args.table.now record_size c.requires.r_value.1, rest c.args.out.now h fits) (
      omega (arith, c.decreases, length-drop record_size c.args.table.now),
      record {
        valid = f.valid_inside c.if-r-eq-GROUPED.true;
        fits = omega (arith, c.requires.ready);
        short = omega (arith, c.requires.ready);
      },
    )

pub emit_avp-overflow_add-length : goal.emit_avp-overflow_add-length
emit_avp-overflow_add-length t c =
    let at = goal.at.emit_avp-overflow_add-length t c in
    let g = at.After-header_size-header_size in
    omega (arith, with_members t g, members_put t at.After-emit_run-members (header_fits t g), c.requires.ready)

pub emit_avp-overflow_cast-length : goal.emit_avp-overflow_cast-length
emit_avp-overflow_cast-length t c =
    let at = goal.at.emit_avp-overflow_cast-length t c in
    let g = at.After-header_size-header_size in
    omega (arith, with_members t g, members_put t at.After-emit_run-members (header_fits t g), c.requires.ready)

pub emit_avp-slice_bounds-put_head-end : goal.emit_avp-slice_bounds-put_head-end
emit_avp-slice_bounds-put_head-end t c =
    let at = goal.at.emit_avp-slice_bounds-put_head-end t c in
    omega (arith, header_fits t at.After-header_size-header_size, membered_length t at.After-emit_run-members)

pub emit_avp-slice_bounds-put_head-end-then-r-eq-GROUPED : goal.emit_avp-slice_bounds-put_head-end-then-r-eq-GROUPED
emit_avp-slice_bounds-put_head-end-then-r-eq-GROUPED t c =
    let at = goal.at.emit_avp-slice_bounds-put_head-end-then-r-eq-GROUPED t c in
    simp length-take
    (omega (arith, header_fits t at.After-header_size-header_size, membered_length t at.After-emit_run-members))

pub emit_avp-overflow_add-result : goal.emit_avp-overflow_add-result
emit_avp-overflow_add-result t c =
    let at = goal.at.emit_avp-overflow_add-result t c in
    let h = header_fits t at.After-header_size-header_size in
    omega (arith, front t at.Start, members_put t at.After-emit_run-members h)

pub emit_avp-returns-then-r-eq-GROUPED : goal.emit_avp-returns-then-r-eq-GROUPED
emit_avp-returns-then-r-eq-GROUPED t c =
    let at = goal.at.emit_avp-returns-then-r-eq-GROUPED t c in
    let m = at.After-emit_run-members in
    let r = c.args.r in
    let h = c.header_size-header_size.result in
    let fits = header_fits t at.After-header_size-header_size in
    let n = h + c.emit_run-members.result.size in
    let long : length (pack (head_fields r n)) ≡ h = head_length r n ∙ sym c.header_size-header_size.ensures in
    let room : h ≤ length (membered t m) = omega (arith, membered_length t m) in
    group_done _ (front t at.Start) c.if-r-eq-GROUPED.true c.header_size-header_size.ensures fits refl (members_put t m fits)
    (put_front (pack (head_fields r n)) (membered t m) long room c.put_head.ensures)

pub emit_avp-emit_leaf-size-requires : goal.emit_avp-emit_leaf-size-requires
emit_avp-emit_leaf-size-requires t c =
    leaf_room _ (front t (goal.at.emit_avp-emit_leaf-size-requires t c).Start) c.if-r-eq-GROUPED.false c.requires.ready.fits

pub emit_avp-returns : goal.emit_avp-returns
emit_avp-returns t c =
    leaf_done _ (front t (goal.at.emit_avp-returns t c).Start) c.if-r-eq-GROUPED.false c.emit_leaf-size.ensures

-- ---- `emit_run`

size_within : (t : ℕ) (c : emit_run-At-loop-records t) → c.loop-records.size ≤ length c.loop-records.out
size_within t c =
    omega (arith, c.loop-records.invariant.1, c.loop-records.invariant.2.passed, c.requires)

-- a record at the run's own depth
next : (t : ℕ) (c : emit_run-Else-r-depth t)
    → let table = c.args.table.now in
    let depth = c.args.depth in
    Step c.args.pool.now depth (run depth table) table c.loop-records.records c.loop-records.size c.get-r.result
next t c =
    step c.args.table.now _ _ (omega arith) c.get-r.ensures (omega arith) c.loop-records.invariant.2.passed

-- and one that is put
one_done : (t : ℕ) (c : emit_run-After-emit_avp-t t) → c.loop-records.size ≤ length c.loop-records.out
    → let here = from c.args.table.now c.loop-records.records in
    Done (one here) c.args.pool.now c.emit_avp-t.result (drop c.loop-records.size c.loop-records.out) c.emit_avp-t.new.out
one_done t c within =
    let l = c.loop-records in
    rw (rest c.args.table.now (l.records * record_size) l.invariant.0, rest l.out l.size within) at c.emit_avp-t.ensures

pub emit_run-loop-records-init : goal.emit_run-loop-records-init
emit_run-loop-records-init t c = (omega arith, refl, none_put c.requires.valid)

pub emit_run-returns-then-r-depth : goal.emit_run-returns-then-r-depth
emit_run-returns-then-r-depth t c =
    let l = c.loop-records in
    all_put (ends_above c.args.table.now l.records _ (omega arith) c.get-r.ensures _ (omega arith)) l.invariant.2

pub emit_run-emit_avp-t-requires : goal.emit_run-emit_avp-t-requires
emit_run-emit_avp-t-requires t c =
    let at = goal.at.emit_run-emit_avp-t-requires t c in
    let s = next t at.Else-r-depth in
    let l = c.loop-records in
    let within = size_within t at.At-loop-records in
    let left = length-drop l.size l.out in
    rw (rest c.args.table.now (l.records * record_size) l.invariant.0, rest l.out l.size within) (
      omega (arith, c.decreases, length-drop (l.records * record_size) c.args.table.now),
      (
        (s.here_is, s.long),
        record {
          valid = s.valid;
          fits = omega (arith, l.invariant.1, c.requires);
          short = omega (arith, c.requires);
        },
      ),
    )

pub emit_run-overflow_add-records : goal.emit_run-overflow_add-records
emit_run-overflow_add-records t c =
    let at = goal.at.emit_run-overflow_add-records t c in
    let d = one_done t at.After-emit_avp-t (size_within t at.At-loop-records) in
    omega (arith, next t at.Else-r-depth, d)

pub emit_run-overflow_add-size : goal.emit_run-overflow_add-size
emit_run-overflow_add-size t c =
    let at = goal.at.emit_run-overflow_add-size t c in
    let d = one_done t at.After-emit_avp-t (size_within t at.At-loop-records) in
    omega (arith, next t at.Else-r-depth, d, c.requires)

pub emit_run-loop-records-smaller : goal.emit_run-loop-records-smaller
emit_run-loop-records-smaller t c =
    let at = goal.at.emit_run-loop-records-smaller t c in
    let d = one_done t at.After-emit_avp-t (size_within t at.At-loop-records) in
    omega (arith, next t at.Else-r-depth, d)

pub emit_run-loop-records-preserved : goal.emit_run-loop-records-preserved
emit_run-loop-records-preserved t c =
    let at = goal.at.emit_run-loop-records-preserved t c in
    let l = c.loop-records in
    let d = one_done t at.After-emit_avp-t (size_within t at.At-loop-records) in
    let s = next t at.Else-r-depth in (
      omega (arith, s, d),
      same_len_mid l.size (length l.out - l.size) l.out c.emit_avp-t.new.out c.emit_avp-t.auto.out ∙ l.invariant.1,
      one_put s l.invariant.2 d,
    )

pub emit_run-returns : goal.emit_run-returns
emit_run-returns t c =
    let l = c.loop-records in
    all_put (ends _ c.args.table.now l.records (omega arith)) l.invariant.2
