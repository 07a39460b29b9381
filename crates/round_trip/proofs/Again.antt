-- An AVP's own bytes, made again from its record: the header's fields are written where they were read, the data stand after them,
-- and the padding is held as a number. The record keeps the rules, and its numbers fit.
use Prim.Native.Nat.{ℕ, ◌+◌, ◌%◌, ◌^◌, ◌≤◌, ◌<◌}
use mathlib.Core.Path.{◌≡◌, refl}
use mathlib.Core.Bool.{true}
use mathlib.Core.Logic.{inl, inr}
use mathlib.Core.List.{List, [], ◌∷◌, ◌++◌}
use native.Mathlib.Omega.{arith}
use lib.ListN.{length, take, drop, length-drop, drop_of_length-le, take-append-drop}
use lib.Seq.{drop-drop}
use lib.Dec.{eqb}
use Rattle.octets.specs.Octets.{be, pack, Bytes}
use Rattle.octets.proofs.Numbers.{be_small}
use Rattle.octets.proofs.Layouts.{pack_unpack}
use Rattle.flags.specs.Flags.{bit}
use Rattle.rfc6733.specs.Avp.{flags, avp_length, vendor_bit, head_size, vendor, data_size, padding, payload, pads, Exact}
use Rattle.record.specs.Value.{Value}
use Rattle.record.specs.Kinds.{grouped, time}
use Rattle.record.specs.Record.{Record}
use Rattle.rfc6733.specs.Records.{record_of}
use Rattle.record.specs.Table.{bare, Fits}
use Rattle.rfc6733.specs.Writer.{head_of, stated_data, avp_bytes, head_fields, pad_bytes}
use Rattle.rfc6733.proofs.Complete.{sizes, exact_sizes}
use Rattle.refusal.proofs.Tests.{decide}
use Rattle.rfc6733.proofs.Items.{payload_length}
use Rattle.round_trip.specs.Rules.{Good}
use Rattle.round_trip.proofs.Lengths.{no_padding}
use Rattle.octets.proofs.Held.{bytes_drop}
use Rattle.round_trip.proofs.Pads.{pads_written, pads_unused}

-- ---- the parts of an AVP

-- its padding: what stands behind its length
abbrev pads_at : List ℕ → List ℕ
pads_at a = drop (avp_length a) a

three : (h n : ℕ) (a : List ℕ) → take h a ++ (take n (drop h a) ++ drop (h + n) a) ≡ a
three h n a = rw (← drop-drop n h a, take-append-drop n (drop h a), take-append-drop h a)

module _ (place depth : ℕ) (a : List ℕ) (v : Value) where
  abbrev pub own : Record
  own = bare (record_of place depth a v)

  vendor_small : Bytes a → vendor a < 256 ^ 4
  unfolding vendor
  vendor_small b = elim (decide (bit vendor_bit (flags a))) [ inl e ↦ rw e (be_small 4 a 8 b) | inr e ↦ rw e (omega arith) ]

  module _ (exact : Exact a) (bytes : Bytes a) where
    pads_length : length (pads_at a) ≡ padding (data_size a)
    pads_length = omega (arith, length-drop (avp_length a) a, sizes a)

    header_again : pack (head_fields own (avp_length a)) ≡ take (head_size (flags a)) a
    unfolding bare record_of head_size vendor
    header_again =
        let z = exact_sizes a exact in
        let there : head_size (flags a) ≤ length a = omega arith in
        elim (decide (bit vendor_bit (flags a))) [
          | inl e ↦ rw e (pack_unpack (4 ∷ 1 ∷ 3 ∷ 4 ∷ []) a 0 (rw e at there) bytes)
          | inr e ↦ rw e (pack_unpack (4 ∷ 1 ∷ 3 ∷ []) a 0 (rw e at there) bytes)
        ]

    pads_again : pad_bytes own ≡ pads_at a
    unfolding bare record_of pads
    pads_again = let z = sizes a in pads_written (padding (data_size a)) (pads_at a) pads_length (omega arith) (bytes_drop (avp_length a) a bytes)

    pub avp_again : (body : List ℕ) → body ≡ payload a → avp_bytes own body ≡ a
    unfolding avp_bytes payload bare record_of head_of
    avp_again body e =
        let z = exact_sizes a exact in
        let l : length body ≡ data_size a = rw e (payload_length a z.0) in
        let n : head_of own + length body ≡ avp_length a = omega arith in
        let at : avp_length a ≡ head_size (flags a) + data_size a = omega arith in
        rw (n, e, header_again, pads_again, at) (three (head_size (flags a)) (data_size a) a)

    -- ---- its record

    no_pads : padding (data_size a) ≡ 0 → pads a ≡ 0
    unfolding pads be
    no_pads e =
        let l = pads_length in
        rw (drop_of_length-le a {i = avp_length a} (omega (arith, length-drop (avp_length a) a)))

    pub own_good : (n : ℕ) → 1 ≤ depth → depth ≤ 64 → v.kind ≤ time → place + length a ≤ n
        → (eqb v.kind grouped ≡ true → data_size a % 4 ≡ 0) → Good depth n own
    unfolding bare record_of stated_data head_of data_size vendor pads
    own_good n low high kind within words =
        let z = exact_sizes a exact in
        let unused = pads_unused (padding (data_size a)) (pads_at a) pads_length (omega arith) in
        record {
          some = low;
          most = high;
          allows = omega arith;
          kinds = kind;
          no_vendor = λ e. rw e;
          group = λ e. let p = no_padding (data_size a) (words e) in record { padding_is = p; pads_are = no_pads p };
          leaf = λ e. record { long = z.0.long; within = omega arith; padding_is = refl; unused = unused };
        }

    pub own_fits : place + length a < 256 ^ 4 → depth ≤ 64 → v.kind ≤ time → Fits own
    unfolding bare record_of pads
    own_fits within high kind =
        let z = exact_sizes a exact in
        let place_fits : place + head_size (flags a) < 256 ^ 4 = omega arith in
        let pads_fit = be_small 3 (pads_at a) 0 (bytes_drop (avp_length a) a bytes) in
        (be_small 4 a 0 bytes, (be_small 1 a 4 bytes, (be_small 3 a 5 bytes, (vendor_small bytes, (place_fits, (omega arith, (omega arith, (omega arith, (omega arith, (pads_fit, (omega arith, (omega arith, (omega arith, tt)))))))))))))
