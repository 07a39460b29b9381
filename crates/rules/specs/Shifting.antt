-- A table moved to where it stands behind another in a joined run (docs/FORMAT.md, 12): every place by the bytes and
-- every parent by the records that stand before it. Its bytes are those of the records as the law of joining shifts
-- them (rfc6733/specs/Joining).
use Rattle.std.specs.Prelude.{ℕ, zero, suc, ◌*◌, ◌/◌, ◌%◌, Bool, not, ◌&&◌, eqb, leb}
use Rattle.std.specs.Prelude.{List, [], ◌∷◌, ◌++◌, map, length, take, drop}
use Rattle.refusal.specs.Answer.{Answer, accepted, refused, Test, refuse, answer}
use Rattle.refusal.specs.declared.Refusal.TheVariants.{BadTable, TooLong}
use Rattle.record.specs.Record.{Record, record_size, record_at, last_place}
use Rattle.record.specs.Table.{table_of, all}
use Rattle.record.specs.Store.{put_place_and_parent}
use Rattle.rfc6733.specs.Joining.{shifted}

-- ---- the answer

-- place and parent fit their four bytes
abbrev pub fits_shifted : ℕ → ℕ → Record → Bool
fits_shifted bytes records r = let q = shifted bytes records r in leb q.place last_place && leb q.parent last_place

abbrev pub all_fit_shifted : ℕ → ℕ → List Record → Bool
all_fit_shifted bytes records rs = all (map (fits_shifted bytes records) rs)

abbrev pub shift_refusals : ℕ → ℕ → List ℕ → List Test
shift_refusals bytes records table =
    refuse (not (eqb (length table % record_size) 0)) (BadTable (length table / record_size))
    ∷ refuse (not (all_fit_shifted bytes records (table_of table))) TooLong
    ∷ []

-- how many records were moved
unfoldable pub shift_answer : ℕ → ℕ → List ℕ → Answer ℕ
shift_answer bytes records table = answer (shift_refusals bytes records table) (length table / record_size)

-- ---- the bytes

-- of the record at the front: place and parent are those of the record that is shifted, and every other byte stays
abbrev pub shifted_row : ℕ → ℕ → List ℕ → List ℕ
shifted_row bytes records row =
    let r = shifted bytes records (record_at row) in put_place_and_parent r.place r.parent row

-- of the first n records
abbrev pub shifted_rows : ℕ → ℕ → ℕ → List ℕ → List ℕ
shifted_rows bytes records zero table = []
shifted_rows bytes records (suc n) table =
    shifted_row bytes records (take record_size table) ++ shifted_rows bytes records n (drop record_size table)

-- the table afterwards: its n records, since no bytes are left over, or as it was lent
unfoldable pub table_after : ℕ → ℕ → Answer ℕ → List ℕ → List ℕ
table_after bytes records (accepted n) table = shifted_rows bytes records n table
table_after bytes records (refused why) table = table

-- ---- steps

-- the first n records are moved, and what is behind them is as it was
abbrev pub rows_moved : ℕ → ℕ → ℕ → List ℕ → List ℕ
rows_moved bytes records n table = shifted_rows bytes records n table ++ drop (n * record_size) table
