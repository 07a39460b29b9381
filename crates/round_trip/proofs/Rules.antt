-- `keeps` asks the rules one by one, so it is true exactly where each rule holds. A greater depth may be allowed, and any that
-- the record keeps to. `keepers` counts up to the first record that breaks a rule, so it counts them all exactly where the table is valid
-- and its records have the parents that its depths tell.
use Prim.Native.Nat.{ℕ, suc, ◌+◌, ◌≤◌}
use mathlib.Core.Path.{◌≡◌, refl, ap, ap₂}
use mathlib.Core.Bool.{true, false, ◌&&◌}
use mathlib.Core.Logic.{◌↔◌, inl, inr}
use mathlib.Core.List.{List, [], ◌∷◌}
use native.Mathlib.Omega.{arith}
use lib.Dec.{eqb}
use lib.ListN.{length, get_or, drop}
use borrow.Author.Tests.{eq-eqb}
use Rattle.record.specs.Record.{Record}
use Rattle.record.specs.Parents.{parent_at, parents, depths, own_parents}
use Rattle.rfc6733.specs.Writer.{is_group, keeps, keeps_leaf, keeps_parent, allowed_after, keepers}
use Rattle.refusal.proofs.Tests.{decide, eq_is, and_is, tests}
use Rattle.round_trip.specs.Rules.{Unpadded, Leaf, Good, Valid}

-- ---- a record, both ways

unpadded_is : (r : Record) → (eqb r.padding 0 && eqb r.pads 0 ≡ true) ↔ Unpadded r
unpadded_is r = (λ e. let h = simp (eq_is, and_is) at e in search, λ u. simp (eq_is, and_is) (search))

leaf_is : (n : ℕ) (r : Record) → (keeps_leaf n r ≡ true) ↔ Leaf n r
unfolding keeps_leaf
leaf_is n r = (λ e. let h = simp (eq_is, tests) at e in search, λ l. simp (eq_is, tests) (search))

module _ (allowed n : ℕ) (r : Record) where
  pub keeps_good : keeps allowed n r ≡ true → Good allowed n r
  unfolding keeps
  keeps_good e = let h = simp (unpadded_is, leaf_is, eq_is r.vendor, tests) at e in search

  pub good_keeps : Good allowed n r → keeps allowed n r ≡ true
  unfolding keeps
  good_keeps g = simp (unpadded_is, leaf_is, eq_is r.vendor, tests) (search)

-- ---- another depth

pub good_at : (allowed other n : ℕ) (r : Record) → r.depth ≤ other → Good allowed n r → Good other n r
good_at allowed other n r h g = search

pub keeps_at : (allowed other n : ℕ) (r : Record) → r.depth ≤ other → keeps allowed n r ≡ true → keeps other n r ≡ true
keeps_at allowed other n r h e = good_keeps other n r (good_at allowed other n r h (keeps_good allowed n r e))

pub after_group : (r : Record) → is_group r ≡ true → allowed_after r ≡ r.depth + 1
unfolding allowed_after
after_group r e = rw e

pub after_leaf : (r : Record) → is_group r ≡ false → allowed_after r ≡ r.depth
unfolding allowed_after
after_leaf r e = rw e

-- ---- a table

pub keepers_most : (earlier : List ℕ) (allowed n : ℕ) (rs : List Record) → keepers earlier allowed n rs ≤ length rs
keepers_most earlier allowed n [] = omega arith
keepers_most earlier allowed n (r ∷ rs) =
    let h = keepers_most (r.depth ∷ earlier) (allowed_after r) n rs in
    elim (decide (keeps allowed n r && keeps_parent earlier r)) [ inl e ↦ rw e (omega arith) | inr e ↦ rw e (omega arith) ]

-- the records have the parents that the depths tell, after earlier ones
abbrev pub Told : List ℕ → List Record → Type 0
Told earlier rs = own_parents rs ≡ parents earlier (depths rs)

pub keepers_valid : (earlier : List ℕ) (allowed n : ℕ) (rs : List Record) → keepers earlier allowed n rs ≡ length rs
    → Valid allowed n rs × Told earlier rs
keepers_valid earlier allowed n [] e = (tt, refl)
keepers_valid earlier allowed n (r ∷ rs) e =
    elim (decide (keeps allowed n r && keeps_parent earlier r)) [
      | inl k ↦
          let f = rw k at e in
          let (own, parent) = simp (eq_is, and_is) at k in
          let (v, told) = keepers_valid (r.depth ∷ earlier) (allowed_after r) n rs (omega arith) in
          ((own, v), ap₂ {C = List ℕ} (λ p ps. p ∷ ps) parent told)
      | inr k ↦ let f = rw k at e in absurd (omega arith)
    ]

pub valid_keepers : (earlier : List ℕ) (allowed n : ℕ) (rs : List Record) → Valid allowed n rs → Told earlier rs
    → keepers earlier allowed n rs ≡ length rs
valid_keepers earlier allowed n [] v told = refl
valid_keepers earlier allowed n (r ∷ rs) v told =
    let parent : r.parent ≡ parent_at earlier r.depth = ap (λ (ps : List ℕ). get_or ps 0 0) told in
    let others : Told (r.depth ∷ earlier) rs = ap (drop 1) told in
    rw (v.0, eq-eqb _ _ parent) (ap suc (valid_keepers (r.depth ∷ earlier) (allowed_after r) n rs v.1 others))

pub valid_up : (allowed other n : ℕ) (rs : List Record) → allowed ≤ other → Valid allowed n rs → Valid other n rs
valid_up allowed other n [] h v = v
valid_up allowed other n (r ∷ rs) h v =
    let g = keeps_good allowed n r v.0 in (keeps_at allowed other n r (omega arith) v.0, v.1)
