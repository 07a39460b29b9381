-- Where a record stands in a table: it has so many records before it. In a table of two parts it stands in one of them,
-- and records that get parents stay where they are.
use Prim.Native.Nat.{ℕ, zero, suc, ◌+◌}
use mathlib.Core.Path.{◌≡◌, refl, sym, ap, ◌∙◌}
use mathlib.Core.Logic.{◌⊎◌, inl, inr}
use mathlib.Core.List.{List, [], ◌∷◌, ◌++◌}
use native.Mathlib.Omega.{arith}
use lib.ListN.{length, drop}
use lib.Seq.{drop-nil}
use Rattle.record.specs.Record.{Record}
use Rattle.record.specs.Damage.{At}
use Rattle.record.specs.Parents.{with_parent, with_parents}

pub none_there : (k : ℕ) (r : Record) (behind : List Record) → drop k [] ≡ r ∷ behind → ⊥
none_there k r behind e = let z : ◌≡◌ {A = ℕ} 0 (suc (length behind)) = ap length (sym (drop-nil k) ∙ e) in omega arith

pub at_drop : (rs : List Record) (k : ℕ) (r : Record) → At rs k r → drop k rs ≡ r ∷ drop (suc k) rs
at_drop [] k r e = elim e [ ]
at_drop (x ∷ rs) zero r e = ap (λ (y : Record). y ∷ rs) e
at_drop (x ∷ rs) (suc k) r e = at_drop rs k r e

-- ---- in a table of two parts

pub record Front (xs : List Record) (k : ℕ) (r : Record) : Type 0 where
  pub behind : List Record
  pub is : drop k xs ≡ r ∷ behind

pub record Later (xs ys : List Record) (k : ℕ) (r : Record) (behind : List Record) : Type 0 where
  pub index : ℕ
  pub index_is : k ≡ length xs + index
  pub is : drop index ys ≡ r ∷ behind

pub in_parts : (xs ys : List Record) (k : ℕ) (r : Record) (behind : List Record) → drop k (xs ++ ys) ≡ r ∷ behind → Front xs k r ⊎ Later xs ys k r behind
in_parts [] ys k r behind e = inr (record { index = k; index_is = omega arith; is = e })
in_parts (x ∷ xs) ys zero r behind e = let same : x ≡ r = cc in inl (record { behind = xs; is = ap (λ (z : Record). z ∷ xs) same })
in_parts (x ∷ xs) ys (suc k) r behind e =
    elim (in_parts xs ys k r behind e) [
      | inl f ↦ inl (record { behind = f.behind; is = f.is })
      | inr l ↦ inr (record { index = l.index; index_is = omega (arith, l.index_is); is = l.is })
    ]

-- ---- in a table whose records got parents

pub record Unparented (rs : List Record) (k : ℕ) (r : Record) : Type 0 where
  pub own : Record
  pub behind : List Record
  pub there : drop k rs ≡ own ∷ behind
  pub is : r ≡ with_parent r.parent own

pub unparented : (ps : List ℕ) (rs : List Record) (k : ℕ) (r : Record) (behind : List Record) → drop k (with_parents ps rs) ≡ r ∷ behind → Unparented rs k r
unparented [] rs k r behind e = record { own = r; behind = behind; there = e; is = refl }
unparented (p ∷ ps) [] k r behind e = absurd (none_there k r behind e)
unparented (p ∷ ps) (x ∷ rs) zero r behind e =
    let same : r ≡ with_parent p x = cc in
    record { own = x; behind = rs; there = refl; is = same ∙ ap (λ (q : ℕ). with_parent q x) (sym (ap (λ (y : Record). y.parent) same)) }
unparented (p ∷ ps) (x ∷ rs) (suc k) r behind e =
    let u = unparented ps rs k r behind e in record { own = u.own; behind = u.behind; there = u.there; is = u.is }
