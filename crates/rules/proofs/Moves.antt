-- Does a record fit its bytes once it is moved? Where its place doesn't, it does not. Where that does, the parent
-- decides, which stays at depth 1.
use Prim.Native.Nat.{ℕ, ◌+◌, ◌-◌, ◌≤◌, ◌<◌}
use mathlib.Core.Path.{◌≡◌, sym, ap, ◌∙◌}
use mathlib.Core.Bool.{true, false}
use mathlib.Core.Logic.{inl, inr}
use mathlib.Core.List.{List}
use native.Mathlib.Omega.{arith}
use lib.Dec.{leb}
use borrow.Author.Tests.{le-leb, lt-leb, leb-true, leb-false, eq-eqb, ne_eqb}
use Rattle.refusal.proofs.Tests.{decide, tests}
use Rattle.record.specs.Record.{Record, record_at, last_place}
use Rattle.record.specs.Store.{put_place_and_parent}
use Rattle.record.specs.Table.{bare, entry_at}
use Rattle.rfc6733.specs.Joining.{shifted}
use Rattle.rules.specs.Shifting.{fits_shifted, shifted_row}

-- asked of what is left, or of the sum
left_or_sum : (n p m : ℕ) → p ≤ m → leb n (m - p) ≡ leb (n + p) m
left_or_sum n p m le =
    elim (decide (leb n (m - p))) [
      | inl e ↦ rw (e, le-leb (n + p) m (omega (arith, leb-true n (m - p) e)))
      | inr e ↦ rw (e, lt-leb (n + p) m (omega (arith, leb-false n (m - p) e)))
    ]

module _ (bytes records : ℕ) (r : Record) where
  pub place_past : last_place < bytes + r.place → fits_shifted bytes records r ≡ false
  unfolding fits_shifted shifted
  place_past past = rw (lt-leb (bytes + r.place) last_place past)

  pub mark_stays : bytes + r.place ≤ last_place → r.depth ≡ 1 → r.parent ≤ last_place
      → fits_shifted bytes records r ≡ true
  unfolding fits_shifted shifted
  mark_stays place top parent =
      rw (le-leb (bytes + r.place) last_place place, eq-eqb r.depth 1 top, le-leb r.parent last_place parent)

  pub parent_moves : bytes + r.place ≤ last_place → (r.depth ≡ 1 → ⊥) → r.parent ≤ last_place
      → leb records (last_place - r.parent) ≡ fits_shifted bytes records r
  unfolding fits_shifted shifted
  parent_moves place deeper parent =
      rw (le-leb (bytes + r.place) last_place place, ne_eqb r.depth 1 deeper)
      (left_or_sum records r.parent last_place parent)

-- ---- a record that is read from a table

module _ (bytes records : ℕ) (row : List ℕ) (r : Record) (read : r ≡ entry_at row) where
  -- where it fits, so do the sums
  pub place_fits : fits_shifted bytes records (record_at row) ≡ true → bytes + r.place ≤ last_place
  unfolding fits_shifted shifted entry_at bare
  place_fits e = let h = simp tests at e in rw read h.0

  pub parent_fits : fits_shifted bytes records (record_at row) ≡ true → (r.depth ≡ 1 → ⊥)
      → records + r.parent ≤ last_place
  unfolding fits_shifted shifted entry_at bare
  parent_fits e deeper =
      let n = (record_at row).depth in
      let h = simp tests at (rw (ne_eqb n 1 (λ top. deeper (ap (λ (x : Record). x.depth) read ∙ top))) at e) in
      rw read h.1

  -- and they are what is put
  pub mark_put : r.depth ≡ 1 → put_place_and_parent (bytes + r.place) r.parent row ≡ shifted_row bytes records row
  unfolding shifted_row shifted entry_at bare
  mark_put top =
      let e = eq-eqb (record_at row).depth 1 (sym (ap (λ (x : Record). x.depth) read) ∙ top) in
      rw (read, e)

  pub parent_put : (r.depth ≡ 1 → ⊥)
      → put_place_and_parent (bytes + r.place) (records + r.parent) row ≡ shifted_row bytes records row
  unfolding shifted_row shifted entry_at bare
  parent_put deeper =
      let e = ne_eqb (record_at row).depth 1 (λ top. deeper (ap (λ (x : Record). x.depth) read ∙ top)) in
      rw (read, e)
