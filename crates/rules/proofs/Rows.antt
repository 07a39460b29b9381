-- A table moved record by record: the next row is read as it was lent, and is put where it stood.
use Prim.Native.Nat.{ℕ, zero, suc, ◌+◌, ◌-◌, ◌*◌, ◌/◌, ◌≤◌, ◌<◌}
use mathlib.Core.Path.{◌≡◌, refl, sym, ap, ◌∙◌}
use mathlib.Core.Bool.{true}
use mathlib.Core.Logic.{inl, inr}
use mathlib.Core.List.{List, ◌++◌, append_assoc, append-nil}
use native.Mathlib.Omega.{arith}
use lib.ListN.{length, take, drop, length-append, length-drop}
use lib.Seq.{length-sets, length-take-le, take_at, drop_at, drop-drop}
use lib.Dec.{leb}
use borrow.Rule.Slice.PartMut.{put_mid}
use Rattle.refusal.proofs.Tests.{decide, tests}
use Rattle.record.specs.Record.{record_size, record_at}
use Rattle.record.specs.Store.{put_place_and_parent}
use Rattle.record.specs.Table.{bare, entry_at, table_of}
use Rattle.record.proofs.Steps.{from}
use Rattle.rfc6733.specs.Joining.{shifted}
use Rattle.rules.specs.Shifting.{fits_shifted, all_fit_shifted, shifted_row, shifted_rows, rows_moved}
use Rattle.rules.proofs.Entries.{next_part}

put_length : (place parent : ℕ) (s : List ℕ) → length (put_place_and_parent place parent s) ≡ length s
unfolding put_place_and_parent
put_length place parent s =
    elim (decide (leb record_size (length s))) [ inl e ↦ rw e (simp length-sets) | inr e ↦ rw e ]

module _ (bytes records : ℕ) where
  row_length : (row : List ℕ) → length (shifted_row bytes records row) ≡ length row
  row_length row = put_length _ _ row

  pub rows_length : (n : ℕ) (s : List ℕ) → n * record_size ≤ length s
      → length (shifted_rows bytes records n s) ≡ n * record_size
  rows_length zero s h = refl
  rows_length (suc n) s h =
      let row = row_length (take record_size s) ∙ length-take-le record_size s (omega arith) in
      let others = rows_length n (drop record_size s) (omega (arith, length-drop record_size s)) in
      length-append (shifted_row bytes records (take record_size s)) _ ∙ omega (arith, row, others)

  pub moved_length : (n : ℕ) (s : List ℕ) → n * record_size ≤ length s → length (rows_moved bytes records n s) ≡ length s
  moved_length n s h =
      length-append (shifted_rows bytes records n s) _ ∙ omega (arith, rows_length n s h, length-drop (n * record_size) s)

  -- one row more
  rows_more : (n : ℕ) (s : List ℕ)
      → shifted_rows bytes records (suc n) s
      ≡ shifted_rows bytes records n s ++ shifted_row bytes records (take record_size (drop (n * record_size) s))
  rows_more zero s = append-nil _
  rows_more (suc n) s =
      let further : record_size + n * record_size ≡ suc n * record_size = omega arith in
      let next = rows_more n (drop record_size s) in
      rw (next, drop-drop (n * record_size) record_size s, further)
      (sym (append_assoc (shifted_row bytes records (take record_size s)) _ _))

  module _ (i : ℕ) (s table : List ℕ) (there : i < length s / record_size)
      (is : table ≡ rows_moved bytes records i s) where
    abbrev at : ℕ
    at = i * record_size

    -- what is behind the records that are moved
    pub left : drop at table ≡ from s i
    left = ap (drop at) is ∙ drop_at (shifted_rows bytes records i s) (from s i) at (rows_length i s (omega arith))

    -- the next fits, where all that are left do
    pub next_fits : all_fit_shifted bytes records (table_of (from s i)) ≡ true
        → (fits_shifted bytes records (record_at (take (at + record_size - at) (drop at table))) ≡ true)
        × (all_fit_shifted bytes records (table_of (from s (i + 1))) ≡ true)
    unfolding shifted entry_at bare
    next_fits fit =
        let h = simp tests at (rw (next_part s i there refl) at fit) in
        (rw left (simp tests h.0), h.1)

    pub row_moved : (back : List ℕ) → back ≡ shifted_row bytes records (take (at + record_size - at) (drop at table))
        → put_mid at (at + record_size - at) table back ≡ rows_moved bytes records (i + 1) s
    row_moved back e =
        let rows = shifted_rows bytes records i s in
        let size : at + record_size - at ≡ record_size = omega arith in
        let one_more : i + 1 ≡ suc i = omega arith in
        let further : at + record_size ≡ suc i * record_size = omega arith in
        let front : take at table ≡ rows =
        ap (take at) is ∙ take_at rows (from s i) at (rows_length i s (omega arith)) in
        rw (one_more, e, size, left, front, rows_more i s, drop-drop record_size at s, further)
        (sym (append_assoc rows _ _))
