-- One law for every layout: what is written is read back, if its numbers fit; and what is read, written again, is the bytes that it was read from.
use Prim.Native.Nat.{ℕ, zero, suc, ◌+◌, ◌%◌, ◌≤◌, ◌<◌, ◌^◌}
use mathlib.Core.Path.{◌≡◌, refl}
use mathlib.Core.List.{List, [], ◌∷◌, ◌++◌, append_assoc}
use native.Mathlib.Nat.{add_assoc, mod-eq_of_lt}
use native.Mathlib.Omega.{arith}
use lib.ListN.{length, get_or, take, drop}
use lib.Seq.{take-add, drop-drop}
use Rattle.octets.specs.Octets.{octets, pack, widths, Bytes, Layout, fields, unpack, fields_of, value_at, low, Fit}
use Rattle.octets.proofs.Numbers.{be_front, be_behind, be_small, read_written, written_read, length_octets}

-- numbers behind some bytes
unpack_behind : (ws a s : List ℕ) (i : ℕ) → unpack ws (a ++ s) (length a + i) ≡ unpack ws s i
unpack_behind [] a s i = refl
unpack_behind (w ∷ ws) a s i =
    rw (be_behind, add_assoc, unpack_behind ws a s (i + w))

-- one number, and those behind it
unpack_first : (w n : ℕ) (ws rest more ns : List ℕ) → unpack ws (rest ++ more) 0 ≡ ns
    → unpack (w ∷ ws) ((octets w n ++ rest) ++ more) 0 ≡ n % 256 ^ w ∷ ns
unpack_first w n ws rest more ns e =
    let o = octets w n in
    let l = length_octets w n in
    let at : 0 + w ≡ length o + 0 = omega arith in
    rw (append_assoc, be_front w o (rest ++ more) 0 (omega arith), read_written, at, unpack_behind ws o (rest ++ more) 0, e)

-- what is written is read back, up to the bytes that its widths leave out
pub unpack_low : (ws ns more : List ℕ) → unpack ws (pack (fields ws ns) ++ more) 0 ≡ low ws ns
unpack_low [] ns more = refl
unpack_low (w ∷ ws) [] more = unpack_first w 0 ws (pack (fields ws [])) more (low ws []) (unpack_low ws [] more)
unpack_low (w ∷ ws) (n ∷ ns) more = unpack_first w n ws (pack (fields ws ns)) more (low ws ns) (unpack_low ws ns more)

pub low_fit : (ws ns : List ℕ) → Fit ws ns → low ws ns ≡ ns
low_fit [] [] f = refl
low_fit [] (n ∷ ns) f = absurd f
low_fit (w ∷ ws) [] f = absurd f
low_fit (w ∷ ws) (n ∷ ns) f = rw (mod-eq_of_lt f.0, low_fit ws ns f.1)

pub pack_unpack : (ws s : List ℕ) (i : ℕ) → let fs = fields ws (unpack ws s i) in
    i + widths fs ≤ length s → Bytes s → pack fs ≡ take (widths fs) (drop i s)
pack_unpack [] s i h b = refl
pack_unpack (w ∷ ws) s i h b =
    let more = widths (fields ws (unpack ws s (i + w))) in
    rw (written_read w s i (omega arith) b, pack_unpack ws s (i + w) (omega arith) b, take-add w more (drop i s), drop-drop)

-- what is read of bytes fits
pub unpack_fits : (ws s : List ℕ) (i : ℕ) → Bytes s → Fit ws (unpack ws s i)
unpack_fits [] s i b = tt
unpack_fits (w ∷ ws) s i b = (be_small w s i b, unpack_fits ws s (i + w) b)

-- the number at a position fits
pub fit_at : (ws ns : List ℕ) → Fit ws ns → (k : ℕ) → get_or ns k 0 < 256 ^ get_or ws k 0
fit_at [] [] f k = omega arith
fit_at [] (n ∷ ns) f k = absurd f
fit_at (w ∷ ws) [] f k = absurd f
fit_at (w ∷ ws) (n ∷ ns) f zero = f.0
fit_at (w ∷ ws) (n ∷ ns) f (suc k) = fit_at ws ns f.1 k

-- ---- a layout whose values are told by their numbers

module _ {A : Type 0} (L : Layout A) where
  pub value_back : ((x : A) → L.made (L.numbers x) ≡ x) → (x : A) (more : List ℕ) → Fit L.sizes (L.numbers x)
      → value_at L (pack (fields_of L x) ++ more) ≡ x
  value_back told x more f = cc (unpack_low L.sizes (L.numbers x) more, low_fit L.sizes (L.numbers x) f, told x)

  pub bytes_back : (s : List ℕ) → L.numbers (value_at L s) ≡ unpack L.sizes s 0 → widths (fields_of L (value_at L s)) ≤ length s → Bytes s
      → pack (fields_of L (value_at L s)) ≡ take (widths (fields_of L (value_at L s))) s
  bytes_back s told h b =
      let there = rw told at h in
      rw told (pack_unpack L.sizes s 0 (omega arith) b)
