-- `read_run`, `read_avp` and `read_value` meet their contracts, which are proved together since each calls the next and the last the first.
-- A run's records are those of its AVPs one after the other (`Filling`); an AVP's are its own and its members' (`OwnRecord`); and the data
-- of an AVP are entered where their value is Grouped (`Entering`). The levels left fall when a group is entered.
use Prim.Native.Nat.{ℕ, ◌≤◌}
use mathlib.Core.Path.{◌≡◌, refl, sym, ap, ◌∙◌}
use mathlib.Core.List.{List}
use native.Mathlib.Omega.{arith}
use lib.ListN.{length, take}
use lib.Seq.{length-take-le}
use Rattle.octets.proofs.Lists.{rest}
use Rattle.record.specs.Record.{Record, record_size}
use Rattle.record.specs.Store.{put}
use Rattle.rfc6733.specs.Avp.{complete}
use Rattle.attribute.specs.ByTable.{dictionary_of}
use Rattle.attribute.proofs.Dictionaries.{kind_is_known}
use Rattle.value.specs.Values.{Shows, new_value}
use Rattle.front.specs.Front.{avp_of}
use Rattle.front.proofs.Fronts.{Turn, turn_at}
use Rattle.count.proofs.Lent.{own}
use Rattle.avps.proofs.Filling.{nothing_filled, never_stuck, all_filled, room_for_one, one_filled}
use Rattle.avps.proofs.OwnRecord.{opened, standing, behind, behind_room, standing_length, room_for_own, level_for_own, placed, members_tile, room_for_members, avp_written}
use Rattle.avps.proofs.OtherKinds.{other_address}
use Rattle.avps.proofs.Entering.{known_value, a_group, no_members, members_written}
use Rattle.avps.proofs.fill.+read_avp_read_run_read_value.Goals as goal
use Rattle.avps.proofs.fill.+read_avp_read_run_read_value.Goals.{read_avp-After-put, read_run-After-avp-a, read_value-After-new_known-read}

-- ---- `read_avp`

pub read_avp-own_record-requires : goal.read_avp-own_record-requires
read_avp-own_record-requires t c =
    let D = dictionary_of c.args.d in
    let x = c.requires.a_value.1 in
    let o = opened c.requires.a_value.0 x c.header_size-from.ensures in
    placed D o x (λ i. omega (arith, c.type_inv.s i)) refl c.requires.room

pub read_avp-slice_bounds-put-end : goal.read_avp-slice_bounds-put-end
read_avp-slice_bounds-put-end t c =
    let x = c.requires.a_value.1 in
    room_for_own (dictionary_of c.args.d) (opened c.requires.a_value.0 x c.header_size-from.ensures) x c.requires.room

pub read_avp-slice_bounds-put-end-2 : goal.read_avp-slice_bounds-put-end-2
read_avp-slice_bounds-put-end-2 t c =
    let x = c.requires.a_value.1 in
    sym (length-take-le record_size c.args.store.now
    (room_for_own (dictionary_of c.args.d) (opened c.requires.a_value.0 x c.header_size-from.ensures) x c.requires.room))

pub read_avp-slice_bounds-read_value-count : goal.read_avp-slice_bounds-read_value-count
read_avp-slice_bounds-read_value-count t c =
    omega (arith, opened c.requires.a_value.0 c.requires.a_value.1 c.header_size-from.ensures)

pub read_avp-slice_bounds-read_value-start : goal.read_avp-slice_bounds-read_value-start
read_avp-slice_bounds-read_value-start t c =
    omega (arith, opened c.requires.a_value.0 c.requires.a_value.1 c.header_size-from.ensures)

pub read_avp-slice_bounds-read_value-end : goal.read_avp-slice_bounds-read_value-end
read_avp-slice_bounds-read_value-end t c =
    omega (arith, opened c.requires.a_value.0 c.requires.a_value.1 c.header_size-from.ensures)

-- the store with the AVP's own record, before its value is known: there is room for a record, and the store is as long as it was
record Stands (first store : List ℕ) : Type 0 where
  room : record_size ≤ length store
  as_long : length (standing first store) ≡ length store

stands : (t : ℕ) (c : read_avp-After-put t) → Stands c.put.new.store c.args.store.now
stands t c =
    let x = c.requires.a_value.1 in
    let o = opened c.requires.a_value.0 x c.header_size-from.ensures in
    let room = room_for_own (dictionary_of c.args.d) o x c.requires.room in
    let first = c.put.ensures.store ∙ ap (λ (r : Record). put r (take record_size c.args.store.now)) c.own_record.ensures in
    record { room = room; as_long = standing_length _ c.args.store.now c.put.new.store room first }

pub read_avp-slice_bounds-read_value-count-2 : goal.read_avp-slice_bounds-read_value-count-2
read_avp-slice_bounds-read_value-count-2 t c = omega (arith, stands t (goal.at.read_avp-slice_bounds-read_value-count-2 t c).After-put)

pub read_avp-slice_bounds-read_value-start-2 : goal.read_avp-slice_bounds-read_value-start-2
read_avp-slice_bounds-read_value-start-2 t c = omega (arith, stands t (goal.at.read_avp-slice_bounds-read_value-start-2 t c).After-put)

pub read_avp-read_value-value-requires : goal.read_avp-read_value-value-requires
read_avp-read_value-value-requires t c =
    let D = dictionary_of c.args.d in
    let x = c.requires.a_value.1 in
    let o = opened c.requires.a_value.0 x c.header_size-from.ensures in
    let st = stands t (goal.at.read_avp-read_value-value-requires t c).After-put in (
      omega arith,
      (
        (level_for_own D o x c.requires.room, members_tile D o x c.requires.room),
        room_for_members D o x c.args.store.now (standing c.put.new.store c.args.store.now) st.as_long c.requires.room,
      ),
    )

pub read_avp-slice_bounds-put_found-end : goal.read_avp-slice_bounds-put_found-end
read_avp-slice_bounds-put_found-end t c =
    let st = stands t (goal.at.read_avp-slice_bounds-put_found-end t c).After-put in
    behind_room (standing c.put.new.store c.args.store.now) c.read_value-value.new.store (omega arith)

pub read_avp-slice_bounds-put_found-end-2 : goal.read_avp-slice_bounds-put_found-end-2
read_avp-slice_bounds-put_found-end-2 t c =
    let st = stands t (goal.at.read_avp-slice_bounds-put_found-end-2 t c).After-put in
    let all = standing c.put.new.store c.args.store.now in
    sym (length-take-le record_size (behind all c.read_value-value.new.store) (behind_room all c.read_value-value.new.store (omega arith)))

pub read_avp-returns : goal.read_avp-returns
read_avp-returns t c =
    let D = dictionary_of c.args.d in
    let x = c.requires.a_value.1 in
    let o = opened c.requires.a_value.0 x c.header_size-from.ensures in
    let first = c.put.ensures.store ∙ ap (λ (r : Record). put r (take record_size c.args.store.now)) c.own_record.ensures in
    avp_written D o x c.requires.room c.pads-pads.ensures c.own_errors-own.ensures first c.read_value-value.ensures c.join-errors.ensures c.put_found.ensures

pub read_avp-overflow_add-result : goal.read_avp-overflow_add-result
read_avp-overflow_add-result t c =
    let D = dictionary_of c.args.d in
    let x = c.requires.a_value.1 in
    let o = opened c.requires.a_value.0 x c.header_size-from.ensures in
    let first = c.put.ensures.store ∙ ap (λ (r : Record). put r (take record_size c.args.store.now)) c.own_record.ensures in
    let w = avp_written D o x c.requires.room c.pads-pads.ensures c.own_errors-own.ensures first c.read_value-value.ensures c.join-errors.ensures c.put_found.ensures in
    omega (arith, w.count_is, c.requires.room)

-- ---- `read_run`

pub read_run-loop-at-init : goal.read_run-loop-at-init
read_run-loop-at-init t c = (omega arith, nothing_filled c.requires.room.indices_fit)

pub read_run-avp-a-requires : goal.read_run-avp-a-requires
read_run-avp-a-requires t c =
    let s = c.args.s.now in
    ap complete (rest s c.loop-at.at (omega arith)) ∙ never_stuck s c.loop-at.at c.loop-at.invariant.1 c.requires.s_value c.loop-at-test.true

-- an AVP was read there
turn_there : (t : ℕ) (c : read_run-After-avp-a t) → Turn c.args.s.now c.loop-at.at c.avp-a.result
turn_there t c =
    let s = c.args.s.now in
    let whole = never_stuck s c.loop-at.at c.loop-at.invariant.1 c.requires.s_value c.loop-at-test.true in
    turn_at s c.loop-at.at c.avp-a.result whole (c.avp-a.ensures ∙ ap avp_of (rest s c.loop-at.at (omega arith)))

pub read_run-overflow_add-next : goal.read_run-overflow_add-next
read_run-overflow_add-next t c =
    let u = turn_there t (goal.at.read_run-overflow_add-next t c).After-avp-a in
    omega (arith, u)

pub read_run-slice_bounds-read_avp-end : goal.read_run-slice_bounds-read_avp-end
read_run-slice_bounds-read_avp-end t c =
    let u = turn_there t (goal.at.read_run-slice_bounds-read_avp-end t c).After-avp-a in
    omega (arith, u)

pub read_run-read_avp-one-requires : goal.read_run-read_avp-one-requires
read_run-read_avp-one-requires t c =
    let u = turn_there t (goal.at.read_run-read_avp-one-requires t c).After-avp-a in
    let o = own (dictionary_of c.args.d) u in
    (omega arith, ((o.is, o.exact), room_for_one c.requires.room c.loop-at.invariant.1 o (omega (arith, c.loop-at.invariant.1)) u.fits))

pub read_run-overflow_add-n : goal.read_run-overflow_add-n
read_run-overflow_add-n t c =
    let u = turn_there t (goal.at.read_run-overflow_add-n t c).After-avp-a in
    omega (arith, one_filled c.requires.room c.loop-at.invariant.1 (own _ u) c.read_avp-one.ensures, c.requires.room)

pub read_run-loop-at-smaller : goal.read_run-loop-at-smaller
read_run-loop-at-smaller t c =
    let u = turn_there t (goal.at.read_run-loop-at-smaller t c).After-avp-a in
    omega (arith, u)

pub read_run-loop-at-preserved : goal.read_run-loop-at-preserved
read_run-loop-at-preserved t c =
    let u = turn_there t (goal.at.read_run-loop-at-preserved t c).After-avp-a in
    (u.fits, rw c.join-errors.ensures (one_filled c.requires.room c.loop-at.invariant.1 (own _ u) c.read_avp-one.ensures))

pub read_run-returns : goal.read_run-returns
read_run-returns t c =
    rw c.group_before-parent.ensures at (all_filled _ _ c.loop-at.invariant.1 c.loop-at-test.false)

-- ---- `read_value`

-- the value is that of the dictionary's kind
value_shown : (t : ℕ) (c : read_value-After-new_known-read t)
    → let D = dictionary_of c.args.d in
    Shows (new_value D.as_address (D.kind c.args.code c.args.vendor) c.args.«data».now) c.args.«data».now c.new_known-read.result
unfolding dictionary_of
value_shown t c =
    let a = c.args in
    rw (known_value (dictionary_of a.d) a.code a.vendor a.«data».now a.whole c.requires.left_nonzero.1)
    at (rw (c.kind.ensures, kind_is_known a.d a.code a.vendor) at c.new_known-read.ensures)

pub read_value-read_run-members-requires : goal.read_value-read_run-members-requires
read_value-read_run-members-requires t c =
    let v = value_shown t (goal.at.read_value-read_run-members-requires t c).After-new_known-read in
    let g = a_group v (other_address _ _) (sym c.kind-kind.ensures ∙ c.if-kind-eq-GROUPED.true) in
    (omega arith, (g.tiles_is, rw g.entered_is at c.requires.room))

pub read_value-returns-then-kind-eq-GROUPED : goal.read_value-returns-then-kind-eq-GROUPED
read_value-returns-then-kind-eq-GROUPED t c =
    let v = value_shown t (goal.at.read_value-returns-then-kind-eq-GROUPED t c).After-new_known-read in
    let g = a_group v (other_address _ _) (sym c.kind-kind.ensures ∙ c.if-kind-eq-GROUPED.true) in
    members_written g c.if-kind-eq-GROUPED.true (omega (arith, c.requires.room)) c.read_run-members.ensures

pub read_value-returns : goal.read_value-returns
read_value-returns t c =
    let v = value_shown t (goal.at.read_value-returns t c).After-new_known-read in
    no_members v (λ e. c.if-kind-eq-GROUPED.false (c.kind-kind.ensures ∙ e)) c.kind-kind.ensures c.number.ensures
