-- A header that is put field by field, each right behind the one before, is the bytes of its definition over the front of the output.
use Prim.Native.Nat.{ℕ, ◌≤◌, ◌<◌}
use mathlib.Core.Path.{◌≡◌}
use mathlib.Core.Bool.{true, false}
use mathlib.Core.List.{List, [], ◌∷◌, ◌++◌}
use native.Mathlib.Omega.{arith}
use lib.ListN.{length}
use lib.Seq.{sets}
use Rattle.octets.specs.Octets.{field, octets, pack, fields_of, put_all}
use Rattle.octets.proofs.Numbers.{length_pack}
use Rattle.octets.proofs.Lists.{all_bytes_put, none_put}
use Rattle.flags.specs.Flags.{bit}
use Rattle.record.specs.Record.{Record}
use Rattle.rfc6733.specs.Avp.{vendor_bit, head_size}
use Rattle.rfc6733.specs.Header.{Header, header_layout}
use Rattle.rfc6733.specs.Writer.{head_of, head_fields}
use Rattle.round_trip.proofs.Lengths.{head_length}

-- ---- a message's header

module _ (h : Header) (l : List ℕ) where
  pub header_put : 20 ≤ length l
      → let front = sets (sets l 0 (octets 1 h.version ++ octets 3 h.length)) 4 (octets 1 h.flags ++ octets 3 h.code) in
      sets (sets (sets front 8 (octets 4 h.app_id)) 12 (octets 4 h.hop_id)) 16 (octets 4 h.end_id)
      ≡ put_all (pack (fields_of header_layout h)) l
  unfolding octets
  header_put room = all_bytes_put (pack (fields_of header_layout h)) l room

  pub no_header_put : length l < 20 → l ≡ put_all (pack (fields_of header_layout h)) l
  no_header_put none = none_put (pack (fields_of header_layout h)) l (omega (arith, length_pack (fields_of header_layout h)))

-- ---- an AVP's header

pub with_vendor : (r : Record) → bit vendor_bit r.flags ≡ true → head_of r ≡ 12
unfolding head_of head_size
with_vendor r e = rw e

module _ (r : Record) (n : ℕ) (l : List ℕ) where
  pub no_head_put : length l < head_of r → l ≡ put_all (pack (head_fields r n)) l
  no_head_put none = none_put (pack (head_fields r n)) l (omega (arith, head_length r n))

  pub head_put : bit vendor_bit r.flags ≡ false → 8 ≤ length l
      → sets (sets l 0 (octets 4 r.code)) 4 (octets 1 r.flags ++ octets 3 n) ≡ put_all (pack (head_fields r n)) l
  unfolding octets
  head_put e h = rw e (all_bytes_put (pack (field 4 r.code ∷ field 1 r.flags ∷ field 3 n ∷ [])) l h)

  pub vendor_put : bit vendor_bit r.flags ≡ true → 12 ≤ length l
      → sets (sets (sets l 0 (octets 4 r.code)) 4 (octets 1 r.flags ++ octets 3 n)) 8 (octets 4 r.vendor)
      ≡ put_all (pack (head_fields r n)) l
  unfolding octets
  vendor_put e h =
      let fs = field 4 r.code ∷ field 1 r.flags ∷ field 3 n ∷ field 4 r.vendor ∷ [] in
      rw e (all_bytes_put (pack fs) l h)
