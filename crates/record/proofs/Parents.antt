-- Walking back finds the last earlier record of a depth. Records that get parents keep all else, so there are as many, what does not look at the
-- parent holds of them as before, and their depths tell the same parents. They have the parents that they got, where there is one for each.
use Prim.Native.Nat.{ℕ, suc, ◌-◌, ◌^◌, ◌≤◌, ◌<◌}
use mathlib.Core.Path.{◌≡◌, refl, ap, ◌∙◌}
use mathlib.Core.Logic.{◌⊎◌, inl, inr}
use mathlib.Core.List.{List, [], ◌∷◌, ◌++◌, map}
use native.Mathlib.Omega.{arith}
use lib.ListN.{length}
use lib.Dec.{eqb}
use borrow.Author.Tests.{eqb-true, eqb-false, ne_eqb}
use Rattle.refusal.proofs.Tests.{decide}
use Rattle.octets.proofs.Layouts.{fit_at}
use Rattle.record.specs.Record.{Record, record_layout}
use Rattle.record.specs.Table.{bare, of_depth, Every, Fits, AllFit}
use Rattle.record.specs.Outline.{outline_of}
use Rattle.record.specs.Parents.{top_level, last_of, parent_at, parents, depths, own_parents, told_parents, with_parent, with_parents, parented}

-- ---- parents that are given

pub with_count : (ps : List ℕ) (rs : List Record) → length (with_parents ps rs) ≡ length rs
with_count [] rs = refl
with_count (p ∷ ps) [] = refl
with_count (p ∷ ps) (r ∷ rs) = ap suc (with_count ps rs)

pub with_depths : (ps : List ℕ) (rs : List Record) → depths (with_parents ps rs) ≡ depths rs
with_depths [] rs = refl
with_depths (p ∷ ps) [] = refl
with_depths (p ∷ ps) (r ∷ rs) = rw (with_depths ps rs)

pub with_own : (ps : List ℕ) (rs : List Record) → length ps ≡ length rs → own_parents (with_parents ps rs) ≡ ps
with_own [] [] e = refl
with_own [] (r ∷ rs) e = absurd (omega arith)
with_own (p ∷ ps) [] e = absurd (omega arith)
with_own (p ∷ ps) (r ∷ rs) e = rw (with_own ps rs (omega arith))

pub with_append : (ps qs : List ℕ) (rs ts : List Record) → length ps ≡ length rs
    → with_parents (ps ++ qs) (rs ++ ts) ≡ with_parents ps rs ++ with_parents qs ts
with_append [] qs [] ts e = refl
with_append [] qs (r ∷ rs) ts e = absurd (omega arith)
with_append (p ∷ ps) qs [] ts e = absurd (omega arith)
with_append (p ∷ ps) qs (r ∷ rs) ts e = rw (with_append ps qs rs ts (omega arith))

pub with_bare : (ps : List ℕ) (rs : List Record) → map bare (with_parents ps rs) ≡ with_parents ps (map bare rs)
unfolding bare
with_bare [] rs = refl
with_bare (p ∷ ps) [] = refl
with_bare (p ∷ ps) (r ∷ rs) = rw (with_bare ps rs)

pub with_outlines : (d : ℕ) (ps : List ℕ) (rs : List Record) → map outline_of (of_depth d (with_parents ps rs)) ≡ map outline_of (of_depth d rs)
with_outlines d [] rs = refl
with_outlines d (p ∷ ps) [] = refl
with_outlines d (p ∷ ps) (r ∷ rs) =
    let h = with_outlines d ps rs in elim (decide (eqb r.depth d)) [ inl e ↦ rw (e, h) | inr e ↦ rw (e, h) ]

-- what does not look at the parent
pub with_every : (P : Record → Type 0) → ((p : ℕ) (r : Record) → P r → P (with_parent p r)) → (ps : List ℕ) (rs : List Record) → Every P rs
    → Every P (with_parents ps rs)
with_every P blind [] rs h = h
with_every P blind (p ∷ ps) [] h = tt
with_every P blind (p ∷ ps) (r ∷ rs) h = (blind p r h.0, with_every P blind ps rs h.1)

-- ---- parents that fit their four bytes

abbrev pub ParentsFit : List ℕ → Type 0
ParentsFit [] = Unit {0}
ParentsFit (p ∷ ps) = (p < 256 ^ 4) × ParentsFit ps

one_fits : (p : ℕ) (r : Record) → p < 256 ^ 4 → Fits r → Fits (with_parent p r)
unfolding bare
one_fits p r h f =
    let g = fit_at record_layout.sizes (record_layout.numbers (bare r)) f in
    (g 0, (g 1, (g 2, (g 3, (g 4, (g 5, (g 6, (g 7, (g 8, (g 9, (g 10, (g 11, (h, tt)))))))))))))

pub with_fit : (ps : List ℕ) (rs : List Record) → ParentsFit ps → AllFit rs → AllFit (with_parents ps rs)
with_fit [] rs h f = f
with_fit (p ∷ ps) [] h f = tt
with_fit (p ∷ ps) (r ∷ rs) h f = (one_fits p r h.0 f.0, with_fit ps rs h.1 f.1)

-- ---- parents that the depths tell

-- among the earlier depths is d; and it is not
abbrev pub Has : ℕ → List ℕ → Type 0
Has d [] = ⊥
Has d (e ∷ earlier) = (e ≡ d) ⊎ Has d earlier

abbrev pub HasNot : ℕ → List ℕ → Type 0
HasNot d [] = Unit {0}
HasNot d (e ∷ earlier) = (e ≡ d → ⊥) × HasNot d earlier

-- of the earlier depths, the last first, that of index p is d, and none since is
pub record LastOne (earlier : List ℕ) (d p : ℕ) : Type 0 where
  pub since : List ℕ
  pub before : List ℕ
  pub split : earlier ≡ since ++ (d ∷ before)
  pub index_is : p ≡ length before
  pub none_since : HasNot d since

-- walking back finds the last one, where there is one
pub last_found : (d : ℕ) (earlier : List ℕ) → Has d earlier → LastOne earlier d (last_of d earlier)
last_found d [] has = absurd has
last_found d (e ∷ earlier) has =
    elim (decide (eqb e d)) [
      | inl is ↦
          let same : e ∷ earlier ≡ d ∷ earlier = ap (λ (x : ℕ). x ∷ earlier) (eqb-true e d is) in
          rw is (record { since = []; before = earlier; split = same; index_is = refl; none_since = tt })
      | inr is ↦
          let other = eqb-false e d is in
          let l = last_found d earlier (elim has [ inl x ↦ absurd (other x) | inr more ↦ more ]) in
          let same : e ∷ earlier ≡ e ∷ (l.since ++ (d ∷ l.before)) = ap (λ (x : List ℕ). e ∷ x) l.split in
          rw is (record { since = e ∷ l.since; before = l.before; split = same; index_is = l.index_is; none_since = (other, l.none_since) })
    ]

pub none_found : (d : ℕ) (earlier : List ℕ) → HasNot d earlier → last_of d earlier ≡ top_level
none_found d [] none = refl
none_found d (e ∷ earlier) none = rw (ne_eqb e d none.0) (none_found d earlier none.1)

-- so a parent is the last earlier record one depth less, and at depth 1 the mark
pub parent_found : (earlier : List ℕ) (d : ℕ) → 2 ≤ d → Has (d - 1) earlier → LastOne earlier (d - 1) (parent_at earlier d)
parent_found earlier d deep has = rw (ne_eqb d 1 (λ e. omega arith)) (last_found (d - 1) earlier has)

pub parent_top : (earlier : List ℕ) → parent_at earlier 1 ≡ 4294967295
parent_top earlier = refl

pub parents_count : (earlier : List ℕ) (rs : List Record) → length (parents earlier (depths rs)) ≡ length rs
parents_count earlier [] = refl
parents_count earlier (r ∷ rs) = ap suc (parents_count (r.depth ∷ earlier) rs)

pub parented_count : (rs : List Record) → length (parented rs) ≡ length rs
unfolding parented
parented_count rs = with_count (told_parents rs) rs

bare_depths : (rs : List Record) → depths (map bare rs) ≡ depths rs
unfolding bare
bare_depths [] = refl
bare_depths (r ∷ rs) = rw (bare_depths rs)

pub parented_bare : (rs : List Record) → map bare (parented rs) ≡ parented (map bare rs)
unfolding parented
parented_bare rs = with_bare (told_parents rs) rs ∙ rw (bare_depths rs)

-- records that got them have those that their depths tell
pub parented_told : (rs : List Record) → own_parents (parented rs) ≡ told_parents (parented rs)
unfolding parented
parented_told rs = with_own (told_parents rs) rs (parents_count [] rs) ∙ rw (with_depths (told_parents rs) rs)
