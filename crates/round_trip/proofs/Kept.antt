-- The parts of a valid table's forest at a depth. The forest and each part of it are kept, since those rules look at one record at a
-- time. Past as many records as a part has, the table is what is behind that part, and is valid at the depth above. The trees at the
-- top are the records of depth 1: what is deeper stands under one of them.
use Prim.Native.Nat.{ℕ, suc, ◌+◌, ◌≤◌}
use mathlib.Core.Path.{◌≡◌, refl, ap, ◌∙◌}
use mathlib.Core.Logic.{inl, inr}
use mathlib.Core.List.{List, [], ◌∷◌}
use native.Mathlib.Omega.{arith}
use lib.ListN.{drop}
use lib.Dec.{leb}
use borrow.Author.Tests.{leb-true, leb-false, le-leb, lt-leb, eq-eqb, ne_eqb}
use Rattle.record.specs.Record.{Record}
use Rattle.record.specs.Forest.{Forest, none, node, leading, following, forest}
use Rattle.rfc6733.specs.Writer.{allowed_after}
use Rattle.refusal.proofs.Tests.{decide}
use Rattle.round_trip.specs.Forests.{count}
use Rattle.round_trip.specs.Rules.{Valid, Kept}
use Rattle.record.specs.Table.{of_depth}
use Rattle.round_trip.specs.Tops.{roots}
use Rattle.round_trip.proofs.Rules.{keeps_good, good_at, keeps_at}

-- ---- kept

kept_parts : (n d : ℕ) (f : Forest) → Kept n f → Kept n (leading d f) × Kept n (following d f)
kept_parts n d none k = (tt, tt)
kept_parts n d (node r i t) k =
    let (l, f) = kept_parts n d t k.2 in
    elim (decide (leb d r.depth)) [ inl e ↦ rw e ((k.0, k.1, l), f) | inr e ↦ rw e (tt, k) ]

pub valid_kept : (allowed n : ℕ) (rs : List Record) → Valid allowed n rs → Kept n (forest rs)
valid_kept allowed n [] v = tt
valid_kept allowed n (r ∷ rs) v =
    let (l, f) = kept_parts n (r.depth + 1) (forest rs) (valid_kept (allowed_after r) n rs v.1) in
    (good_at allowed r.depth n r (omega arith) (keeps_good allowed n r v.0), l, f)

-- ---- the parts of a forest at two depths

following_following : (d e : ℕ) (f : Forest) → d ≤ e → following d (following e f) ≡ following d f
following_following d e none h = refl
following_following d e (node r i t) h =
    elim (decide (leb e r.depth)) [
      | inl x ↦ rw (x, le-leb d r.depth (omega (arith, leb-true))) (following_following d e t h)
      | inr x ↦ rw x
    ]

count_following : (d e : ℕ) (f : Forest) → d ≤ e → count (leading e f) + count (leading d (following e f)) ≡ count (leading d f)
count_following d e none h = refl
count_following d e (node r i t) h =
    elim (decide (leb e r.depth)) [
      | inl x ↦ rw (x, le-leb d r.depth (omega (arith, leb-true))) (omega (arith, count_following d e t h))
      | inr x ↦ rw x (omega arith)
    ]

-- ---- past a part of the forest

-- a record of depth d or deeper is the first of the part at d
count_planted : (r : Record) (rs : List Record) (d : ℕ) → d ≤ r.depth
    → 1 + count (leading (r.depth + 1) (forest rs)) + count (leading d (following (r.depth + 1) (forest rs))) ≡ suc (count (leading d (forest rs)))
count_planted r rs d h = omega (arith, count_following d (r.depth + 1) (forest rs) (omega arith))

pub forest_tail : (d : ℕ) (rs : List Record) → forest (drop (count (leading d (forest rs))) rs) ≡ following d (forest rs)
forest_tail d [] = refl
forest_tail d (r ∷ rs) =
    elim (decide (leb d r.depth)) [
      | inl x ↦
          let h = leb-true d r.depth x in
          rw (x, count_planted r rs d h, following_following d (r.depth + 1) (forest rs) (omega arith)) (forest_tail d rs)
      | inr x ↦ rw x
    ]

pub valid_tail : (allowed d n : ℕ) (rs : List Record) → Valid allowed n rs → Valid d n (drop (count (leading (d + 1) (forest rs))) rs)
valid_tail allowed d n [] v = tt
valid_tail allowed d n (r ∷ rs) v =
    elim (decide (leb (d + 1) r.depth)) [
      | inl x ↦ rw (x, count_planted r rs (d + 1) (leb-true (d + 1) r.depth x)) (valid_tail (allowed_after r) d n rs v.1)
      | inr x ↦ rw x (keeps_at allowed d n r (omega (arith, leb-false)) v.0, v.1)
    ]

-- ---- the records of depth 1

roots_following : (allowed n : ℕ) (rs : List Record) → Valid allowed n rs → roots (following 2 (forest rs)) ≡ of_depth 1 rs
roots_following allowed n [] v = refl
roots_following allowed n (r ∷ rs) v =
    let g = keeps_good allowed n r v.0 in
    let h = roots_following (allowed_after r) n rs v.1 in
    elim (decide (leb 2 r.depth)) [
      | inl x ↦
          rw (x, ne_eqb r.depth 1 (λ z. omega (arith, leb-true)), following_following 2 (r.depth + 1) (forest rs) (omega (arith, leb-true))) h
      | inr x ↦
          let one : r.depth ≡ 1 = omega (arith, leb-false) in
          rw (x, eq-eqb r.depth 1 one) (ap (λ (k : ℕ). r ∷ roots (following (k + 1) (forest rs))) one ∙ ap (λ (l : List Record). r ∷ l) h)
    ]

pub roots_table : (n : ℕ) (rs : List Record) → Valid 1 n rs → roots (forest rs) ≡ of_depth 1 rs
roots_table n [] v = refl
roots_table n (r ∷ rs) v =
    let g = keeps_good 1 n r v.0 in
    rw (lt-leb 2 r.depth (omega arith)) at (roots_following 1 n (r ∷ rs) v)
