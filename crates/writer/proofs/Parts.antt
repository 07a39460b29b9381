-- What is put part by part is the bytes of the definition over the front of the output: of an AVP that is no group its
-- header, its data and its padding, one after the other.
use Prim.Native.Nat.{ℕ, ◌+◌, ◌-◌, ◌≤◌}
use mathlib.Core.Path.{◌≡◌, sym, ap, ◌∙◌}
use mathlib.Core.List.{List, [], ◌++◌, append_assoc, append-nil}
use native.Mathlib.Omega.{arith}
use lib.ListN.{length, take, drop, length-append, length-drop}
use lib.Seq.{length-take-le, drop-length}
use borrow.Rule.Slice.PartMut.{put_mid}
use Rattle.octets.specs.Octets.{octets, pack, over, put_all, Put}
use Rattle.octets.proofs.Numbers.{length_octets}
use Rattle.octets.proofs.Lists.{over_more, all_put, part_put}
use Rattle.rfc6733.specs.Avp.{padding}
use Rattle.record.specs.Record.{Record}
use Rattle.rfc6733.specs.Writer.{head_of, stated_data, avp_bytes, head_fields, pad_bytes, data_in}
use Rattle.round_trip.specs.Rules.{Leaf}
use Rattle.round_trip.proofs.Lengths.{head_length, avp_length_lem}
use Rattle.writer.specs.Emitting.{LeafRoom}

-- ---- an AVP that is no group: its sizes

pub record Sizes (pool : List ℕ) (r : Record) : Type 0 where
  pub stated_is : stated_data r ≡ r.length - head_of r
  pub data_is : head_of r + length (data_in pool r) ≡ r.length
  pub padding_few : r.padding ≤ 3
  pub avp_is : length (avp_bytes r (data_in pool r)) ≡ r.length + r.padding

pub leaf_sizes : (pool : List ℕ) (r : Record) → Leaf (length pool) r → Sizes pool r
unfolding stated_data padding
leaf_sizes pool r l =
    let d = length-take-le (r.length - head_of r) (drop r.place pool) (omega (arith, length-drop r.place pool, l.within)) in
    let p : r.padding ≤ 3 = omega (arith, l.padding_is) in
    omega (arith, avp_length_lem r (data_in pool r) p, l.long)

-- ---- its bytes, the parts as they were lent and came back

-- bytes over all of a part behind the n that were put before
put_behind : (a b l : List ℕ) {q back : List ℕ} {n k : ℕ} → q ≡ over a l → length a ≡ n → length b ≡ k → n + k ≤ length q
    → back ≡ over b (take k (drop n q)) → put_mid n k q back ≡ over (a ++ b) l
put_behind a b l {q} {n = n} q-is a-long b-long fits put =
    rw (put, ← b-long, part_put b q n (omega arith), q-is, over_more a b l n a-long)

-- and over all of the first k
pub put_front : (new l : List ℕ) {back : List ℕ} {k : ℕ} → length new ≡ k → k ≤ length l → back ≡ put_all new (take k l)
    → back ++ drop k l ≡ over new l
unfolding over
put_front new l {k = k} long fits put =
    let part = take k l in
    let size = length-take-le k l fits in
    let none : drop k part ≡ [] = sym (ap (λ (n : ℕ). drop n part) size) ∙ drop-length part in
    rw (put, all_put new part (omega arith), long, none, append-nil)

module _ (r : Record) (pool l : List ℕ) (w : LeafRoom r pool (length l)) where
  pub leaf_put : {p src k m : List ℕ} {h : ℕ} → h ≡ head_of r → p ≡ over (pack (head_fields r r.length)) l → length p ≡ length l
      → src ≡ take (r.place + (r.length - h) - r.place) (drop r.place pool) → k ≡ put_all src (take (r.length - h) (drop h p))
      → let q = put_mid h (r.length - h) p k in
      let part = take (r.length + r.padding - r.length) (drop r.length q) in
      length q ≡ length l → m ≡ over (take (length part) (octets 3 r.pads)) part
      → Put (r.length + r.padding) (avp_bytes r (data_in pool r)) l (put_mid r.length (r.length + r.padding - r.length) q m)
  unfolding avp_bytes
  leaf_put {p} {src} {k} {m} {h} eh ep lp es ek lq em =
      let q = put_mid h (r.length - h) p k in
      let head = pack (head_fields r r.length) in
      let body = data_in pool r in
      let s = leaf_sizes pool r w.leaf in
      let long = w.leaf.long in
      let room = w.fits in
      let head_is = head_length r r.length ∙ sym eh in
      let n : r.place + (r.length - h) - r.place ≡ stated_data r = omega arith in
      let src_is : src ≡ body = es ∙ rw n in
      let into = length-take-le (r.length - h) (drop h p) (omega (arith, length-drop h p)) in
      let data_put : k ≡ over body (take (r.length - h) (drop h p)) =
      ek ∙ rw (src_is, all_put body (take (r.length - h) (drop h p)) (omega (arith, s.data_is)))
      in
      let front : q ≡ over (head ++ body) l =
      put_behind head body l {k = r.length - h} ep head_is (omega (arith, s.data_is)) (omega arith) data_put
      in
      let behind = length-take-le (r.length + r.padding - r.length) (drop r.length q) (omega (arith, length-drop r.length q)) in
      let few : length (pad_bytes r) ≡ r.padding =
      length-take-le r.padding (octets 3 r.pads) (omega (arith, s.padding_few, length_octets 3 r.pads))
      in
      let count : length (take (r.length + r.padding - r.length) (drop r.length q)) ≡ r.padding = omega arith in
      record {
        size_is = sym s.avp_is;
        out_is =
            put_behind (head ++ body) (pad_bytes r) l {n = r.length} {k = r.length + r.padding - r.length} front
            (omega (arith, length-append head body, s.data_is)) (omega arith) (omega arith) (em ∙ rw count)
            ∙ rw (s.data_is, append_assoc head body (pad_bytes r));
      }
