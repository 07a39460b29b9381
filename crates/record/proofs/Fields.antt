-- The fields of a record by words of four bytes, as the code reads them: each is the number at its place. A word of a byte and three bytes
-- is the byte, times 256 ^ 3, and the number of the three; a word of three bytes and a byte is the number of the three, times 256, and the byte.
use Rattle.std.proofs.Common.{◌≡◌, ℕ, ◌/◌, ◌%◌, List, take, drop, get_or, arith}
use Rattle.octets.specs.Octets.{be, Bytes}
use Rattle.octets.proofs.Numbers.{be_part, one_byte}
use Rattle.octets.proofs.Words.{high_byte, low_three, high_three}
use Rattle.record.specs.Record.{record_at}
use Rattle.record.specs.Table.{bare, entry_at}

module _ (s : List ℕ) where
  -- the word at a place, as it is cut out
  abbrev Word : ℕ → ℕ → Type 0
  Word at w = w ≡ be 4 (take 4 (drop at s)) 0

  word : (at w : ℕ) → Word at w → w ≡ be 4 s at
  word at w e = rw e (be_part 4 s 4 at (omega arith))

  pub fields_are : Bytes s → (code second vendor place pads parent : ℕ) → Word 0 code → Word 4 second → Word 8 vendor → Word 12 place
      → Word 20 pads → Word 32 parent
      → record {
        code = code;
        flags = second / 0x1000000;
        length = second % 0x1000000;
        vendor = vendor;
        place = place;
        depth = get_or s 16 0;
        kind = get_or s 17 0;
        errors = 0;
        padding = get_or s 19 0;
        pads = pads / 256;
        value = 0;
        parent = parent;
      } ≡ entry_at s
  unfolding entry_at record_at bare
  fields_are h code second vendor place pads parent e0 e4 e8 e12 e20 e32 =
      rw (word 0 code e0, word 4 second e4, word 8 vendor e8, word 12 place e12, word 20 pads e20, word 32 parent e32)
      (cc (high_byte s h 4, low_three s h 4, high_three s h 20, one_byte s 16, one_byte s 17, one_byte s 19))
