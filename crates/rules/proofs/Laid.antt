-- A table of records that are laid out, moved: it is that of the records shifted, where these fit their bytes. So
-- moving a table is what the law of joining says of its records.
use Prim.Native.Nat.{ℕ, ◌/◌, ◌%◌, ◌^◌, ◌<◌}
use mathlib.Core.Path.{◌≡◌, refl, sym, ap, ◌∙◌}
use mathlib.Core.Bool.{true}
use mathlib.Core.List.{List, [], ◌∷◌, map, append-nil}
use native.Mathlib.Omega.{arith}
use lib.ListN.{length}
use lib.Seq.{take_at, drop_at}
use borrow.Author.Tests.{le-leb, eq-eqb}
use Rattle.octets.specs.Octets.{octets}
use Rattle.octets.proofs.Layouts.{fit_at}
use Rattle.refusal.specs.Answer.{accepted}
use Rattle.refusal.proofs.Answers.{true_and}
use Rattle.record.specs.Record.{Record, record_size, record_layout, record_bytes, record_at, last_place, laid}
use Rattle.record.specs.Store.{put_place_and_parent}
use Rattle.record.specs.Table.{bare, Fits, AllFit}
use Rattle.record.proofs.Layouts.{record_length, laid_length}
use Rattle.record.proofs.Tables.{laid_read}
use Rattle.record.proofs.Back.{Valued, Whole, record_back}
use Rattle.rfc6733.specs.Joining.{shifted}
use Rattle.rules.specs.Shifting.{fits_shifted, all_fit_shifted, shift_answer, shifted_row, shifted_rows}

module _ (bytes records : ℕ) where
  put_laid : (r : Record)
      → let q = shifted bytes records r in
      put_place_and_parent q.place q.parent (record_bytes r) ≡ record_bytes q
  unfolding put_place_and_parent shifted record_bytes octets
  put_laid r = refl

  row_laid : (r : Record) → Fits r → Valued r
      → shifted_row bytes records (record_bytes r) ≡ record_bytes (shifted bytes records r)
  row_laid r f v =
      let back : record_at (record_bytes r) ≡ r = ap record_at (sym (append-nil (record_bytes r))) ∙ record_back r [] f v in
      ap (λ (x : Record). let q = shifted bytes records x in put_place_and_parent q.place q.parent (record_bytes r)) back
      ∙ put_laid r

  pub rows_laid : (rs : List Record) → Whole rs
      → shifted_rows bytes records (length rs) (laid rs) ≡ laid (map (shifted bytes records) rs)
  rows_laid [] w = refl
  rows_laid (r ∷ rs) w =
      let others : Whole rs = record { fits = w.fits.1; valued = w.valued.1 } in
      let l = record_length r in
      rw (
        take_at (record_bytes r) (laid rs) record_size l,
        drop_at (record_bytes r) (laid rs) record_size l,
        row_laid r w.fits.0 w.valued.0,
        rows_laid rs others,
      )

  fits_laid : (r : Record) → Fits (shifted bytes records r) → fits_shifted bytes records (bare r) ≡ true
  unfolding shifted bare
  fits_laid r f =
      let g = fit_at record_layout.sizes (record_layout.numbers (bare (shifted bytes records r))) f in
      let q = shifted bytes records r in
      let place : q.place < 256 ^ 4 = g 4 in
      let parent : q.parent < 256 ^ 4 = g 12 in
      true_and (le-leb q.place last_place (omega arith)) (le-leb q.parent last_place (omega arith))

  all_fit_laid : (rs : List Record) → AllFit (map (shifted bytes records) rs)
      → all_fit_shifted bytes records (map bare rs) ≡ true
  all_fit_laid [] f = refl
  all_fit_laid (r ∷ rs) f = true_and (fits_laid r f.0) (all_fit_laid rs f.1)

  pub answer_laid : (rs : List Record) → AllFit rs → AllFit (map (shifted bytes records) rs)
      → shift_answer bytes records (laid rs) ≡ accepted (length rs)
  unfolding shift_answer
  answer_laid rs f g =
      let l = laid_length rs in
      let whole : length (laid rs) % record_size ≡ 0 = omega arith in
      let count : length (laid rs) / record_size ≡ length rs = omega arith in
      rw (eq-eqb _ _ whole, laid_read rs f, all_fit_laid rs g) (ap accepted count)
