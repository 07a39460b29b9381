-- The record of an attribute, written again: it keeps the rules, its numbers fit its bytes, and header and data are those that it was read
-- from. The data are in the bytes that the place points into, since the attribute stands there.
use Prim.Native.Nat.{ℕ, ◌+◌, ◌-◌, ◌≤◌, ◌<◌}
use mathlib.Core.Path.{◌≡◌, refl}
use mathlib.Core.Bool.{true}
use mathlib.Core.List.{List}
use native.Mathlib.Omega.{arith}
use lib.ListN.{length, take, drop}
use lib.Seq.{take-add, take_all}
use Rattle.octets.specs.Octets.{Bytes}
use Rattle.octets.proofs.Layouts.{bytes_back}
use Rattle.octets.proofs.Held.{Holds, holds_part, holds_fits, holds_data}
use Rattle.octets.proofs.Numbers.{be_small}
use Rattle.record.specs.Kinds.{unhandled}
use Rattle.record.specs.Value.{Value, value, text}
use Rattle.record.specs.Record.{Record}
use Rattle.record.specs.Table.{bare, Fits}
use Rattle.rfc2865.specs.Attribute.{head_layout, head_size, code, attribute_length, payload}
use Rattle.rfc2865.specs.Types.{attribute_types, kind_of}
use Rattle.rfc2865.specs.Records.{four_bytes, data_as, value_of, record_of}
use Rattle.rfc2865.specs.Packet.{most_packet}
use Rattle.rfc2865.specs.Writer.{keeps, data_in, attribute_bytes}
use Rattle.rfc2865.specs.Seen.{seen_in, seen_at}
use Rattle.record.proofs.Rows.{kind_within}
use Rattle.record.proofs.Chosen.{either}
use Rattle.rfc2865.proofs.Items.{Whole, payload_length}
use Rattle.rfc2865.proofs.Rules.{good_keeps}

-- ---- the kind of a record is a byte

abbrev Small : Value → Type 0
Small v = v.kind < 256

small : (k e n : ℕ) → k < 256 → Small (value k e n)
small k e n h = h

kind_small : (a : List ℕ) → Small (value_of a)
unfolding value_of kind_of data_as four_bytes text
kind_small a =
    let listed : kind_of (code a) < 256 = omega (arith, kind_within attribute_types (code a)) in
    let none : unhandled < 256 = omega arith in
    search (either Small, small) depth 9

-- ---- an attribute

-- a is an attribute's own bytes, which stand at a place of a pool
pub record Stands (pool : List ℕ) (place : ℕ) (a : List ℕ) : Type 0 where
  pub whole : Whole a
  pub length_is : attribute_length a ≡ length a
  pub holds : Holds pool place a
  pub bytes : Bytes a
  pub near : place + length a ≤ most_packet

module _ (pool : List ℕ) (place : ℕ) (a : List ℕ) (st : Stands pool place a) where
  abbrev r : Record
  r = bare (record_of place a)

  pub data_is : data_in pool (record_of place a) ≡ payload a
  unfolding payload record_of
  data_is =
      let w = st.whole in
      let n = attribute_length a - head_size in
      holds_data pool (place + head_size) n (take n (drop head_size a)) (payload_length a w)
      (holds_part pool place a head_size n (omega (arith, w.least, w.there)) st.holds)

  pub same_seen : seen_at pool (record_of place a) ≡ seen_in a
  unfolding seen_at seen_in record_of
  same_seen = rw data_is

  pub same_bytes : attribute_bytes pool r ≡ a
  unfolding attribute_bytes payload bare record_of
  same_bytes =
      let w = st.whole in
      let n = attribute_length a - head_size in
      let head = bytes_back head_layout a refl (omega (arith, w.least, w.there)) st.bytes in
      let all : head_size + n ≡ length a = omega (arith, w.least, st.length_is) in
      rw (head, data_is, ← take-add head_size n a, all) (take_all (length a) a (omega arith))

  pub keeps_rules : keeps (length pool) r ≡ true
  unfolding bare record_of
  keeps_rules =
      let w = st.whole in
      let c = be_small 1 a 0 st.bytes in
      let l = be_small 1 a 1 st.bytes in
      let there = holds_fits pool place a (omega (arith, w.least, st.length_is)) st.holds in
      good_keeps (length pool) r
      (record {
        code_fits = omega arith;
        least = w.least;
        most = omega arith;
        depth_is = refl;
        flags_are = refl;
        vendor_is = refl;
        padding_is = refl;
        pads_are = refl;
        parent_is = refl;
        within = omega (arith, w.least, st.length_is);
      })

  pub fits_bytes : Fits (record_of place a)
  unfolding bare record_of
  fits_bytes =
      let c = be_small 1 a 0 st.bytes in
      let l = be_small 1 a 1 st.bytes in
      let near = st.near in
      let least = st.whole.least in
      let is = st.length_is in
      (omega arith, (omega arith, (omega arith, (omega arith, (omega arith, (omega arith, (kind_small a, (omega arith, (omega arith, (omega arith, (omega arith, (omega arith, (omega arith, tt)))))))))))))
