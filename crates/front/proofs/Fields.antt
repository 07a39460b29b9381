-- An AVP's fields and sizes as the code finds them, byte by byte: they are those of the definition.
use Prim.Native.Nat.{ℕ, ◌+◌, ◌-◌, ◌/◌, ◌%◌, ◌≤◌}
use mathlib.Core.Path.{◌≡◌, sym, ap, ◌∙◌}
use mathlib.Core.Bool.{true, false}
use mathlib.Core.List.{List}
use native.Mathlib.Omega.{arith}
use lib.ListN.{length, get_or}
use Rattle.octets.specs.Octets.{Reads, Bytes, be}
use Rattle.octets.proofs.Numbers.{bytes, read_at, one_byte}
use Rattle.flags.specs.Flags.{bit}
use Rattle.rfc6733.specs.Avp.{flags, avp_length, vendor_bit, head_size, vendor, data_size, padding, avp_size}
use Rattle.rfc6733.proofs.Complete.{Whole, sizes}
use Rattle.avp.specs.declared.AVP.{AVP}
use Rattle.front.specs.Front.{avp_of}
use Rattle.octets.proofs.Words.{high_byte, low_three}

module _ (s : List ℕ) where
  -- l is the length that the AVP states, and h its header's size
  pub record Stated (l h : ℕ) : Type 0 where
    pub length_is : l ≡ avp_length s
    pub header_is : h ≡ head_size (flags s)

  pub stated : (l h : ℕ) → Reads 3 (bytes 3 s 5) l → h ≡ head_size (get_or s 4 0) → Stated l h
  stated l h length header = record { length_is = read_at 3 s 5 l length; header_is = header ∙ ap head_size (sym (one_byte s 4)) }

  -- the same of the word that holds the flags and the length
  pub flags_of_word : (w : ℕ) → Bytes s → w ≡ be 4 s 4 → w / 0x1000000 ≡ flags s
  flags_of_word w bytes e = ap (λ (x : ℕ). x / 0x1000000) e ∙ high_byte s bytes 4

  pub stated_word : (w h : ℕ) → Bytes s → w ≡ be 4 s 4 → h ≡ head_size (w / 0x1000000) → Stated (w % 0x1000000) h
  stated_word w h bytes e header =
      record {
        length_is = ap (λ (x : ℕ). x % 0x1000000) e ∙ low_three s bytes 4;
        header_is = header ∙ ap head_size (flags_of_word w bytes e);
      }

  -- p bytes of padding follow
  pub record Padded (l p : ℕ) : Type 0 where
    pub size_is : l + p ≡ avp_size s
    pub few : p ≤ 3

  pub padded : (l h p : ℕ) → Stated l h → p ≡ padding (l - h) → Padded l p
  unfolding data_size
  padded l h p st e =
      let z = sizes s in
      let same : p ≡ padding (data_size s) = cc in
      record { size_is = omega arith; few = omega arith }

  -- ---- the vendor

  pub header_there : Whole s → head_size (flags s) ≤ length s
  header_there w = omega (arith, sizes s)

  pub record Vendored : Type 0 where
    pub header_is : head_size (flags s) ≡ 12
    pub vendor_is : vendor s ≡ be 4 s 8

  pub with_vendor : bit vendor_bit (get_or s 4 0) ≡ true → Vendored
  unfolding head_size vendor
  with_vendor e = record { header_is = rw (one_byte, e); vendor_is = rw (one_byte, e) }

  pub without_vendor : bit vendor_bit (get_or s 4 0) ≡ false → vendor s ≡ 0
  unfolding vendor
  without_vendor e = rw (one_byte, e)

  -- ---- all of them

  pub fields_are : (a : AVP) → a.code ≡ be 4 s 0 → a.flags ≡ flags s → a.length ≡ avp_length s → a.vendor_id ≡ vendor s
      → a.size ≡ avp_size s → a ≡ avp_of s
  unfolding avp_of
  fields_are a code flags length vendor size =
      let e : record { code = a.code; flags = a.flags; length = a.length; vendor_id = a.vendor_id; size = a.size } ≡ avp_of s =
      cc
      in
      e
