-- A text piece by piece, as a loop puts it: a line number by number, each with a space after it and the last with a newline, and the
-- lines of a table record by record.
use Prim.Native.Nat.{ℕ, suc, ◌+◌, ◌-◌, ◌≤◌, ◌<◌}
use mathlib.Core.Path.{◌≡◌, refl, sym, ap}
use mathlib.Core.List.{List, [], ◌∷◌, ◌++◌, append_assoc}
use native.Mathlib.Numerals.{add-one}
use native.Mathlib.Omega.{arith}
use lib.ListN.{length, get_or, take, drop, drop_of_length-le, length-take}
use Rattle.std.proofs.Common.{get_or-take}
use lib.Seq.{drop-cons, drop_at}
use Rattle.octets.specs.Octets.{total, unpack}
use Rattle.octets.proofs.Numbers.{be_front}
use Rattle.record.specs.Record.{record_layout, record_size, record_at}
use Rattle.rfc6733.specs.Dump.{record_line, decimal, line}
use Rattle.lines.specs.Text.{records_text}

-- a number before the last
pub line_first : (ns : List ℕ) (i : ℕ)
    → let others = take (length ns - 1) ns in
    i < length others → line (drop i ns) ≡ (decimal (get_or others i 0) ++ (32 ∷ [])) ++ line (drop (i + 1) ns)
line_first ns i h =
    let before : i < length ns - 1 = omega (arith, length-take (length ns - 1) ns) in
    rw (add-one i, drop-cons ns i 0 (omega arith), drop-cons ns (suc i) 0 (omega arith), get_or-take)
    (sym (append_assoc (decimal (get_or ns i 0)) (32 ∷ []) _))

-- the last number
pub line_last : (ns : List ℕ) (i : ℕ) → 1 ≤ length ns → i ≡ length ns - 1 → line (drop i ns) ≡ decimal (get_or ns i 0) ++ (10 ∷ [])
line_last ns i some e = rw (drop-cons ns i 0 (omega arith), drop_of_length-le ns {i = suc i} (omega arith))

-- a record is its 36 bytes, whatever is after them
unpack_front : (ws : List ℕ) (s t : List ℕ) (i : ℕ) → i + total ws ≤ length s → unpack ws (s ++ t) i ≡ unpack ws s i
unpack_front [] s t i h = refl
unpack_front (w ∷ ws) s t i h = rw (be_front w s t i (omega arith), unpack_front ws s t (i + w) (omega arith))

record_front : (row more : List ℕ) → length row ≡ record_size → record_at (row ++ more) ≡ record_at row
unfolding record_at
record_front row more whole = ap record_layout.made (unpack_front record_layout.sizes row more 0 (omega arith))

-- the record of the next chunk
pub record_first : (n m : ℕ) (s row more : List ℕ) → m + 1 ≡ n → s ≡ row ++ more → length row ≡ record_size
    → records_text n s ≡ line (record_line (record_at row)) ++ records_text m more
record_first n m s row more one cut whole =
    let e : n ≡ suc m = omega arith in
    rw (e, cut, record_front row more whole, drop_at row more record_size whole)
