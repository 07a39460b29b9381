-- A record is read back whole from its 36 bytes, where all its numbers fit; so what holds of each record that was put into a store holds of
-- each that is read from it.
use Prim.Native.Nat.{ℕ, suc, ◌^◌, ◌<◌}
use mathlib.Core.Path.{◌≡◌, refl, sym, ap, ap₂, ◌∙◌}
use mathlib.Core.List.{List, [], ◌∷◌, ◌++◌, append_assoc}
use native.Mathlib.Omega.{arith}
use lib.ListN.{length}
use lib.Seq.{drop_at}
use Rattle.octets.proofs.Layouts.{value_back, fit_at}
use Rattle.record.specs.Record.{Record, record_size, record_layout, record_bytes, record_at, laid}
use Rattle.record.specs.Table.{bare, whole_records, Every, Fits, AllFit}
use Rattle.record.proofs.Layouts.{record_length}

-- what the writer does not take of a record fits as well
pub record Valued (r : Record) : Type 0 where
  pub errors_fit : r.errors < 16
  pub value_fits : r.value < 256 ^ 8

pub record Whole (rs : List Record) : Type 0 where
  pub fits : AllFit rs
  pub valued : Every Valued rs

-- ---- read back

pub record_back : (r : Record) (more : List ℕ) → Fits r → Valued r → record_at (record_bytes r ++ more) ≡ r
unfolding record_at record_bytes bare
record_back r more f v =
    let g = fit_at record_layout.sizes (record_layout.numbers (bare r)) f in
    let e = v.errors_fit in
    value_back record_layout (λ x. refl) r more
    (g 0, (g 1, (g 2, (g 3, (g 4, (g 5, (g 6, (omega arith, (g 8, (g 9, (g 10, (v.value_fits, (g 12, tt)))))))))))))

pub records_back : (rs : List Record) (more : List ℕ) → Whole rs → whole_records (length rs) (laid rs ++ more) ≡ rs
records_back [] more w = refl
records_back (r ∷ rs) more w =
    let s = laid rs ++ more in
    let others : Whole rs = record { fits = w.fits.1; valued = w.valued.1 } in
    ap (whole_records (suc (length rs))) (append_assoc (record_bytes r) (laid rs) more)
    ∙ ap₂ {C = List Record} (λ x y. x ∷ y) (record_back r s w.fits.0 w.valued.0)
    (ap (whole_records (length rs)) (drop_at (record_bytes r) s record_size (record_length r)) ∙ records_back rs more others)

-- so what holds of each of them holds of each that is read from a store
pub every_back : (P : Record → Type 0) (rs : List Record) (n : ℕ) (store more : List ℕ) → length rs ≡ n → store ≡ laid rs ++ more → Whole rs → Every P rs
    → Every P (whole_records n store)
every_back P rs n store more counted is w all = rw (ap₂ whole_records (sym counted) is ∙ records_back rs more w) all
