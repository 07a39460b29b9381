-- One AVP from its own bytes: its data are the part that the code lends. Its record is put before its members' and before its value is
-- known, which is put into it after them, so it is the definition's, and the two together are the records of the AVP. It stands right
-- before its first member's, so it is the group that they take for their own.
use Prim.Native.Nat.{ℕ, ◌+◌, ◌-◌, ◌≤◌, ◌<◌}
use mathlib.Core.Path.{◌≡◌, sym, ap, ap₂, ◌∙◌}
use mathlib.Core.Bool.{Bool, true, not}
use mathlib.Core.List.{List, ◌∷◌, ◌++◌}
use native.Mathlib.Omega.{arith}
use lib.ListN.{length, take, drop, length-append, length-drop}
use lib.Seq.{take_at, drop_at, length-take-le}
use lib.Dec.{eqb}
use borrow.Author.Tests.{ne_eqb}
use borrow.Rule.Slice.PartMut.{put_mid}
use Rattle.octets.specs.Octets.{Bytes, over}
use Rattle.octets.specs.Run.{tree}
use Rattle.octets.proofs.Numbers.{be_small}
use Rattle.octets.proofs.Lists.{rest, over_behind, lent}
use Rattle.flags.specs.Flags.{flag, join, non_zero_reserved, non_zero_padding}
use Rattle.rfc6733.specs.Avp as avp
use Rattle.rfc6733.specs.Avp.{head_size, avp_reserved, payload, padding, data_size, Exact}
use Rattle.record.specs.Value.{Value}
use Rattle.rfc6733.specs.Dictionary.{Dictionary}
use Rattle.record.specs.Record.{Record, record_size, record_bytes, laid}
use Rattle.record.specs.Parents.{with_parent}
use Rattle.rfc6733.specs.Records.{own_errors, record_of, avps}
use Rattle.rfc6733.specs.Groups.{member_records}
use Rattle.rfc6733.specs.Entered.{value_in, entered}
use Rattle.rfc6733.proofs.Complete.{head, sizes, complete_whole}
use Rattle.rfc6733.proofs.Items.{payload_length}
use Rattle.record.proofs.Layouts.{record_length}
use Rattle.record.specs.Table.{with_found}
use Rattle.record.proofs.Found.{found_in, put_on_part}
use Rattle.rfc6733.proofs.AllTile.{Inside, inside_tiles}
use Rattle.rfc6733.proofs.Alone.{exact_tree, Made, made}
use Rattle.rfc6733.proofs.Groups.{member_made}
use Rattle.avp.specs.declared.AVP.{AVP}
use Rattle.front.specs.Front.{avp_of}
use Rattle.front.proofs.Fronts.{Here, here}
use Rattle.record.specs.Store.{put, put_found}
use Rattle.avps.specs.declared.fill.Valued.{Valued}
use Rattle.avps.specs.Fill.{group_before, Room, Tiled, Placed, own_record, Recorded, Members}

-- the data as `&s[from..to]` lends them
abbrev pub lent_data : List ℕ → AVP → ℕ → List ℕ
lent_data s a from = take (a.length - from) (drop from s)

-- s is the bytes of the AVP a, whose header is as long as `from` says
pub record Opened (s : List ℕ) (a : AVP) (from : ℕ) : Type 0 where
  pub fields : Here s a
  pub from_is : from ≡ head_size (avp.flags s)
  pub from_in : from ≤ a.length
  pub length_in : a.length ≤ length s
  pub size_is : a.size ≡ length s
  pub padding_is : a.size - a.length ≡ padding (data_size s)
  pub few : a.size - a.length ≤ 3
  pub data_is : lent_data s a from ≡ payload s
  pub data_length : length (lent_data s a from) ≡ a.length - from

pub opened : {s : List ℕ} {a : AVP} {from : ℕ} → a ≡ avp_of s → Exact s → from ≡ head_size a.flags → Opened s a from
unfolding payload
opened {s} {a} {from} is x e =
    let h = here s a is in
    let w = complete_whole s x.whole in
    let z = sizes s in
    let size : avp.avp_size s ≡ length s = x.size_is in
    let from_is : from ≡ head_size (avp.flags s) = e ∙ ap head_size h.flags_is in
    let n : a.length - from ≡ data_size s = omega arith in
    let data_is : lent_data s a from ≡ payload s = ap₂ (λ (k i : ℕ). take k (drop i s)) n from_is in
    record {
      fields = h;
      from_is = from_is;
      from_in = omega arith;
      length_in = omega arith;
      size_is = omega arith;
      padding_is = omega arith;
      few = omega arith;
      data_is = data_is;
      data_length = ap length data_is ∙ payload_length s w ∙ sym n;
    }

-- ---- the record, put before its value is known

-- a store whose first bytes were lent for a record, and came back
abbrev pub standing : List ℕ → List ℕ → List ℕ
standing first store = first ++ drop record_size store

-- and whose other bytes were lent then, and came back
abbrev pub behind : List ℕ → List ℕ → List ℕ
behind s back = put_mid record_size (length s - record_size) s back

pub behind_room : (s back : List ℕ) → record_size ≤ length s → record_size ≤ length (behind s back)
behind_room s back room = rw (lent record_size s back, length-append) (omega (arith, length-take-le record_size s room))

module _ (r : Record) (store first : List ℕ) (room : record_size ≤ length store) (first_is : first ≡ put r (take record_size store)) where
  own_bytes : first ≡ record_bytes r
  own_bytes = first_is ∙ put_on_part r store room

  own_length : length first ≡ record_size
  own_length = ap length own_bytes ∙ record_length r

  pub standing_length : length (standing first store) ≡ length store
  standing_length = simp (length-append, length-drop) (omega (arith, own_length))

  -- what was found is put into the record, and the bytes behind it have come back with others at their front
  put_around : (kind errors value : ℕ) (bytes back found : List ℕ)
      → let s = standing first store in
      back ≡ over bytes (take (length s - record_size) (drop record_size s))
      → found ≡ put_found kind errors value (take record_size (behind s back))
      → found ++ drop record_size (behind s back) ≡ over (record_bytes (with_found r kind errors value) ++ bytes) store
  put_around kind errors value bytes back found back_is found_is =
      let s = standing first store in
      let ahead : take record_size s ≡ first = take_at first (drop record_size store) record_size own_length in
      let after : drop record_size s ≡ drop record_size store = drop_at first (drop record_size store) record_size own_length in
      let came_back : back ≡ over bytes (drop record_size store) =
      back_is ∙ ap (over bytes) (rest s record_size (omega (arith, standing_length)) ∙ after)
      in
      let both : behind s back ≡ first ++ back = lent record_size s back ∙ ap (λ (x : List ℕ). x ++ back) ahead in
      let own_found : found ≡ record_bytes (with_found r kind errors value) =
      rw (both, take_at first back record_size own_length, own_bytes) at found_is ∙ found_in r kind errors value
      in
      rw (both, drop_at first back record_size own_length, own_found, came_back)
      (over_behind (record_bytes (with_found r kind errors value)) bytes store record_size (record_length (with_found r kind errors value)))

-- ---- the records of the AVP

-- it is the group of the members right after it
own_group : (index : ℕ) → group_before (index + 1) ≡ index
own_group index = let e : index + 1 - 1 ≡ index = omega arith in rw (ne_eqb (index + 1) 0 (λ z. omega arith), e)

module _ (D : Dictionary) {s : List ℕ} {a : AVP} {from : ℕ} (o : Opened s a from) (x : Exact s) where
  -- what its records are made of
  made_here : Made D s (tree (avps D) s) (value_in D a.code a.vendor_id (lent_data s a from)) (entered D a.code a.vendor_id (lent_data s a from))
  made_here = rw (exact_tree D s x, o.fields.code_is, o.fields.vendor_is, o.data_is) (made D s)

  pub room_for_own : {w : Bool} {place n index left l : ℕ} → Room w (tree (avps D) s) place n index left l → record_size ≤ l
  room_for_own room = omega (arith, made_here)

  -- its header takes a level
  pub level_for_own : {w : Bool} {place n index left l : ℕ} → Room w (tree (avps D) s) place n index left l → 0 < left
  level_for_own room = omega (arith, made_here)

  -- its fields fit those of a record
  pub placed : {w : Bool} {place n index left l : ℕ} → Bytes s → n ≡ length s → Room w (tree (avps D) s) place n index left l → Placed a place left
  placed bytes is room =
      let h = head (avp.flags s) in
      let long = be_small 3 s 5 bytes in
      record {
        length_fits = omega (arith, o.fields.length_is);
        place_fits = rw (o.fields.flags_is, ← o.from_is) (omega (arith, o.from_in, o.length_in, room.places_fit));
        level_fits = room.levels_fit;
        padded = omega arith;
        few = o.few;
      }

  -- where every group tiles, so do its members
  inside : {w : Bool} {place n index left l : ℕ} → Room w (tree (avps D) s) place n index left l → w ≡ true
      → Inside D a.code a.vendor_id (lent_data s a from)
  inside room sure = rw (o.fields.code_is, o.fields.vendor_is, o.data_is) (inside_tiles D s (rw (exact_tree D s x) at (room.all_tile sure)))

  pub members_tile : {w : Bool} {place n index left l : ℕ} → Room w (tree (avps D) s) place n index left l
      → Tiled w D a.code a.vendor_id (lent_data s a from)
  members_tile room sure = (inside room sure).tiles_is

  pub room_for_members : {w : Bool} {place index left : ℕ} (store s' : List ℕ) → length s' ≡ length store
      → Room w (tree (avps D) s) place (length s) index left (length store)
      → Room w (entered D a.code a.vendor_id (lent_data s a from)) (place + from) (length (lent_data s a from)) (index + 1) (left - 1)
      (length (take (length s' - record_size) (drop record_size s')))
  room_for_members store s' same room =
      let m = made_here in
      let own = room_for_own room in
      let l = ap length (rest s' record_size (omega arith)) ∙ length-drop record_size s' in
      let h = head (avp.flags s) in
      record {
        records_fit = omega arith;
        places_fit = omega arith;
        indices_fit = omega arith;
        depths_fit = omega arith;
        levels_fit = omega arith;
        all_tile = λ sure. (inside room sure).all_tile;
      }

  own_errors_are : (p e : ℕ) → p ≡ avp.pads s
      → e ≡ join (flag (not (eqb (avp_reserved a.flags) 0)) non_zero_reserved) (flag (not (eqb p 0)) non_zero_padding) → e ≡ own_errors s
  unfolding own_errors
  own_errors_are p e ep ee = ee ∙ rw (ep, o.fields.flags_is)

  own_record_is : (place depth parent p e : ℕ) (m : Valued) (v : Value) → p ≡ avp.pads s → m.kind ≡ v.kind
      → m.number ≡ v.number → e ≡ join (own_errors s) v.errors
      → record_bytes (with_found (own_record a place depth p parent) m.kind e m.number) ≡ record_bytes (with_parent parent (record_of place depth s v))
  unfolding record_bytes record_of
  own_record_is place depth parent p e m v ep ek en ee =
      rw (ep, ek, en, ee, o.padding_is, o.fields.code_is, o.fields.flags_is, o.fields.length_is, o.fields.vendor_is)

  -- p is the padding as a number, oe the flags of the AVP's own header and padding, and e these with its value's
  pub avp_written : {w : Bool} {place index parent left depth : ℕ} {store first back found : List ℕ} {m : Valued} {p oe e : ℕ}
      → Room w (tree (avps D) s) place (length s) index left (length store)
      → p ≡ avp.pads s
      → oe ≡ join (flag (not (eqb (avp_reserved a.flags) 0)) non_zero_reserved) (flag (not (eqb p 0)) non_zero_padding)
      → first ≡ put (own_record a place depth p parent) (take record_size store)
      → let Standing_here = standing first store in
      Members D a.code a.vendor_id (lent_data s a from) (place + from) depth (index + 1) m
      (take (length Standing_here - record_size) (drop record_size Standing_here)) back
      → e ≡ join oe m.errors
      → found ≡ put_found m.kind e m.number (take record_size (behind Standing_here back))
      → Recorded D (tree (avps D) s) place depth parent index (record { records = 1 + m.records; errors = e }) store
      (found ++ drop record_size (behind Standing_here back))
  avp_written {place = place} {index} {parent} {depth = depth} {store} {first} {back} {found} {m} {p} {oe} {e} room ep eo ef v ee el =
      let t = made_here in
      let w = value_in D a.code a.vendor_id (lent_data s a from) in
      let inner = entered D a.code a.vendor_id (lent_data s a from) in
      let own = with_parent parent (record_of place depth s w) in
      let members = member_records D (place + from) (depth + 1) index (index + 1) inner in
      let errors_are : e ≡ join (own_errors s) w.errors = ee ∙ ap₂ join (own_errors_are p oe ep eo) v.errors_are in
      let own_is = own_record_is place depth parent p e m w ep v.kind_is v.number_is errors_are in
      let records_are : member_records D place depth parent index (tree (avps D) s) ≡ own ∷ members =
      member_made t place depth parent index
      ∙ ap (λ (i : ℕ). own ∷ member_records D (place + i) (depth + 1) index (index + 1) inner) (sym o.from_is)
      in
      let members_are = rw (own_group index) at v.store_is in
      record {
        count_is = omega (arith, t.count_is, v.count_is);
        errors_are = errors_are ∙ sym t.errors_are;
        store_is =
            put_around (own_record a place depth p parent) store first (room_for_own room) ef m.kind e m.number (laid members) back found members_are el
            ∙ ap (λ (b : List ℕ). over (b ++ laid members) store) own_is
            ∙ ap (λ (rs : List Record). over (laid rs) store) (sym records_are);
      }
