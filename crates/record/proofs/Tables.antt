-- A table record by record: the first is read from its front, and the others are the table 36 bytes further on. Records that are laid
-- out are read back, up to error flags and value, if their numbers fit: this is the law of layouts. Those that are read from bytes fit.
use Prim.Native.Nat.{ℕ, zero, suc, ◌+◌, ◌*◌, ◌/◌, ◌^◌, ◌≤◌, ◌<◌}
use mathlib.Core.Path.{◌≡◌, refl, ap, ◌∙◌}
use mathlib.Core.List.{List, [], ◌∷◌, ◌++◌, map}
use native.Mathlib.Nat.{mod-eq_of_lt}
use native.Mathlib.Omega.{arith}
use lib.ListN.{length, drop, length-append, length-drop}
use lib.Seq.{drop_at, drop-drop}
use Rattle.octets.specs.Octets.{be, Field, field, pack, widths, Bytes, unpack}
use Rattle.octets.proofs.Numbers.{read_field}
use Rattle.octets.proofs.Layouts.{unpack_low, low_fit, unpack_fits, fit_at}
use Rattle.record.specs.Record.{Record, record_size, record_layout, record_bytes, record_at, laid}
use Rattle.record.specs.Table.{bare, entry_at, records_in, table_of, Every, Fits, AllFit}
use Rattle.record.proofs.Layouts.{record_length}
use Rattle.octets.proofs.Held.{bytes_drop}

pub table_none : (s : List ℕ) → length s < record_size → table_of s ≡ []
unfolding table_of records_in
table_none s h = let e : length s / record_size ≡ 0 = omega arith in rw e

pub table_some : (s : List ℕ) → record_size ≤ length s → table_of s ≡ entry_at s ∷ table_of (drop record_size s)
unfolding table_of records_in
table_some s h =
    let e : length s / record_size ≡ suc (length (drop record_size s) / record_size) = omega (arith, length-drop record_size s) in
    rw e

-- so many records further on
pub table_drop : (k : ℕ) (s : List ℕ) → k * record_size ≤ length s → table_of (drop (k * record_size) s) ≡ drop k (table_of s)
table_drop zero s h = refl
table_drop (suc k) s h =
    let e : suc k * record_size ≡ record_size + k * record_size = omega arith in
    rw (e, ← (drop-drop (k * record_size) record_size s), table_some s (omega arith))
    (table_drop k (drop record_size s) (omega (arith, length-drop record_size s)))

pub table_length : (s : List ℕ) → length (table_of s) ≡ length s / record_size
unfolding table_of records_in
table_length s = go (length s / record_size) s
  where
    go : (n : ℕ) (t : List ℕ) → length (records_in n t) ≡ n
    go zero t = refl
    go (suc n) t = ap suc (go n (drop record_size t))

-- ---- laid out and read

-- a field of a layout, if its number fits
pub field_back : (fs before : List Field) (w v : ℕ) (rest : List Field) (more : List ℕ) → fs ≡ before ++ (field w v ∷ rest) → v < 256 ^ w
    → be w (pack fs ++ more) (widths before) ≡ v
field_back fs before w v rest more e h = rw (e, read_field before w v rest more) (mod-eq_of_lt h)

record_read : (r : Record) (more : List ℕ) → Fits r → entry_at (record_bytes r ++ more) ≡ bare r
unfolding entry_at record_at record_bytes bare
record_read r more f =
    ap (λ (ns : List ℕ). bare (record_layout.made ns)) (unpack_low record_layout.sizes (record_layout.numbers r) more)
    ∙ ap record_layout.made (low_fit record_layout.sizes (record_layout.numbers (bare r)) f)

pub laid_read : (rs : List Record) → AllFit rs → table_of (laid rs) ≡ map bare rs
laid_read [] f = table_none [] (omega arith)
laid_read (r ∷ rs) f =
    let l = record_length r in
    let some : record_size ≤ length (laid (r ∷ rs)) = omega (arith, length-append (record_bytes r) (laid rs)) in
    rw (table_some _ some, record_read r (laid rs) f.0, drop_at (record_bytes r) (laid rs) record_size l, laid_read rs f.1)

pub fit_bare : (rs : List Record) → AllFit (map bare rs) → AllFit rs
unfolding bare
fit_bare [] f = tt
fit_bare (r ∷ rs) f = (f.0, fit_bare rs f.1)

-- ---- parts of a table

pub every_both : (P : Record → Type 0) (rs ts : List Record) → Every P rs → Every P ts → Every P (rs ++ ts)
every_both P [] ts f g = g
every_both P (r ∷ rs) ts f g = (f.0, every_both P rs ts f.1 g)

pub fit_after : (rs ts : List Record) → AllFit (rs ++ ts) → AllFit ts
fit_after [] ts f = f
fit_after (r ∷ rs) ts f = fit_after rs ts f.1

-- ---- read from bytes

record_fits : (s : List ℕ) → Bytes s → Fits (entry_at s)
unfolding entry_at record_at bare
record_fits s b =
    let f = fit_at record_layout.sizes (unpack record_layout.sizes s 0) (unpack_fits record_layout.sizes s 0 b) in
    (f 0, (f 1, (f 2, (f 3, (f 4, (f 5, (f 6, (omega arith, (f 8, (f 9, (omega arith, (omega arith, (f 12, tt)))))))))))))

pub table_fits : (s : List ℕ) → Bytes s → AllFit (table_of s)
unfolding table_of records_in
table_fits s b = go (length s / record_size) s b
  where
    go : (n : ℕ) (t : List ℕ) → Bytes t → AllFit (records_in n t)
    go zero t c = tt
    go (suc n) t c = (record_fits t c, go n (drop record_size t) (bytes_drop record_size t c))
