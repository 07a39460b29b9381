-- Reading back what is written for a record that keeps the rules: it is a complete AVP, no byte more, with the record's own code,
-- flags, vendor, data and padding, since each field is read where it was packed.
use Prim.Native.Nat.{ℕ, ◌+◌, ◌-◌, ◌%◌, ◌^◌, ◌<◌}
use mathlib.Core.Path.{◌≡◌, refl, sym, ap}
use mathlib.Core.Logic.{inl, inr}
use mathlib.Core.List.{List, [], ◌∷◌, ◌++◌}
use native.Mathlib.Nat.{zero-mod}
use native.Mathlib.Omega.{arith}
use lib.ListN.{length, get_or, take, drop}
use lib.Seq.{take_at, drop_at, drop-drop}
use Rattle.octets.specs.Octets.{Field, field, pack}
use Rattle.octets.proofs.Layouts.{fit_at}
use Rattle.flags.specs.Flags.{bit}
use Rattle.rfc6733.specs.Avp.{code, flags, avp_length, vendor_bit, head_size, vendor, data_size, padding, payload, pads, Exact}
use Rattle.record.specs.Record.{Record, record_layout}
use Rattle.record.specs.Table.{bare, Fits}
use Rattle.rfc6733.specs.Writer.{is_group, head_of, avp_bytes, head_fields, pad_bytes}
use Rattle.rfc6733.proofs.Complete.{sizes, whole_complete}
use Rattle.refusal.proofs.Tests.{decide}
use Rattle.round_trip.specs.Rules.{Good}
use Rattle.round_trip.specs.Tops.{top_of, top_record}
use Rattle.record.proofs.Tables.{field_back}
use Rattle.round_trip.proofs.Lengths.{head_low, head_length, avp_length_lem, Padded}
use Rattle.round_trip.proofs.Pads.{pads_read}

-- bytes of three parts, taken apart
apart : (h n : ℕ) (a b c : List ℕ) → length a ≡ h → length b ≡ n
    → (take n (drop h (a ++ (b ++ c))) ≡ b) × (drop (h + n) (a ++ (b ++ c)) ≡ c)
apart h n a b c ea eb =
    let front = drop_at a (b ++ c) h ea in
    (rw front (take_at b c n eb), rw (← drop-drop n h (a ++ (b ++ c)), front) (drop_at b c n eb))

-- a group's padding bytes are 0, and so are the unused ones of another
unused_pads : (allowed n : ℕ) (r : Record) → Good allowed n r → r.pads % 256 ^ (3 - r.padding) ≡ 0
unused_pads allowed n r g =
    elim (decide (is_group r)) [ inl e ↦ rw (g.group e).pads_are (zero-mod _) | inr e ↦ (g.leaf e).unused ]

module _ (allowed most : ℕ) (r : Record) (inside : List ℕ) (good : Good allowed most r) (fits : Fits r) (padded : Padded r (length inside))
    (short : head_of r + length inside < 256 ^ 3) where
  -- the number at a position of the record fits
  fit : (k : ℕ) → get_or (record_layout.numbers (bare r)) k 0 < 256 ^ get_or record_layout.sizes k 0
  fit = fit_at record_layout.sizes (record_layout.numbers (bare r)) fits

  abbrev own : List ℕ
  own = avp_bytes r inside

  abbrev n : ℕ
  n = head_of r + length inside

  abbrev fields : List Field
  fields = head_fields r n

  abbrev more : List ℕ
  more = inside ++ pad_bytes r

  code_back : code own ≡ r.code
  unfolding avp_bytes bare
  code_back = field_back fields [] 4 r.code (drop 1 fields) more refl (fit 0)

  flags_back : flags own ≡ r.flags
  unfolding avp_bytes bare
  flags_back = field_back fields (take 1 fields) 1 r.flags (drop 2 fields) more refl (fit 1)

  length_back : avp_length own ≡ n
  unfolding avp_bytes
  length_back = field_back fields (take 2 fields) 3 n (drop 3 fields) more refl short

  vendor_back : vendor own ≡ r.vendor
  unfolding avp_bytes vendor bare
  vendor_back =
      let three = field 4 r.code ∷ field 1 r.flags ∷ field 3 n ∷ [] in
      rw flags_back
      (elim (decide (bit vendor_bit r.flags)) [
        | inl e ↦ rw e (field_back (three ++ (field 4 r.vendor ∷ [])) three 4 r.vendor [] more refl (fit 3))
        | inr e ↦ rw e (sym (good.no_vendor e))
      ])

  head_back : head_size (flags own) ≡ head_of r
  unfolding head_of
  head_back = ap head_size flags_back

  data_back : data_size own ≡ length inside
  data_back = omega (arith, head_back, length_back, sizes own)

  parts : (take (length inside) (drop (head_of r) own) ≡ inside) × (drop n own ≡ pad_bytes r)
  unfolding avp_bytes
  parts = apart (head_of r) (length inside) (pack fields) inside (pad_bytes r) (head_length r n) refl

  payload_back : payload own ≡ inside
  unfolding payload
  payload_back = rw (data_back, head_back) parts.0

  padding_back : padding (data_size own) ≡ r.padding
  padding_back = rw data_back (sym padded.is)

  pads_back : pads own ≡ r.pads
  unfolding pads bare
  pads_back = rw (length_back, parts.1) (pads_read r.padding r.pads padded.few (fit 9) (unused_pads allowed most r good))

  pub exact_back : Exact own
  exact_back =
      let all = avp_length_lem r inside padded.few in
      record {
        whole = whole_complete own (omega (arith, head_low r, head_back, length_back, padding_back, sizes own));
        size_is = omega (arith, length_back, padding_back, sizes own);
      }

  pub top_back : top_of own ≡ top_record r inside
  unfolding top_of top_record
  top_back = rw (code_back, flags_back, vendor_back, payload_back, padding_back, pads_back)
