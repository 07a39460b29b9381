-- The parent is not written, and no rule but its own looks at it: a table's forest is made by its depths, and the bytes of an AVP by other
-- fields. So records that get parents are written as before, and keep the rules that they kept.
use Prim.Native.Nat.{ℕ, ◌+◌}
use mathlib.Core.Path.{◌≡◌, refl, sym, ap, ◌∙◌}
use mathlib.Core.Logic.{inl, inr}
use mathlib.Core.List.{List, [], ◌∷◌, map}
use lib.Dec.{leb}
use Rattle.refusal.proofs.Tests.{decide}
use Rattle.record.specs.Record.{Record}
use Rattle.record.specs.Forest.{Forest, none, node, leading, following, forest}
use Rattle.record.specs.Parents.{told_parents, with_parent, with_parents, parented}
use Rattle.rfc6733.specs.Writer.{head_of, stated_data, keeps_leaf, keeps, allowed_after, avp_bytes, forest_bytes}
use Rattle.round_trip.specs.Rules.{Valid}

-- ---- a forest without parents

abbrev without : Record → Record
without = with_parent 0

abbrev stripped : Forest → Forest
stripped none = none
stripped (node r members rest) = node (without r) (stripped members) (stripped rest)

stripped_leading : (d : ℕ) (f : Forest) → stripped (leading d f) ≡ leading d (stripped f)
stripped_leading d none = refl
stripped_leading d (node r i t) = elim (decide (leb d r.depth)) [ inl e ↦ rw (e, stripped_leading d t) | inr e ↦ rw e ]

stripped_following : (d : ℕ) (f : Forest) → stripped (following d f) ≡ following d (stripped f)
stripped_following d none = refl
stripped_following d (node r i t) = elim (decide (leb d r.depth)) [ inl e ↦ rw (e, stripped_following d t) | inr e ↦ rw e ]

stripped_forest : (rs : List Record) → stripped (forest rs) ≡ forest (map without rs)
stripped_forest [] = refl
stripped_forest (r ∷ rs) =
    rw (stripped_leading (r.depth + 1) (forest rs), stripped_following (r.depth + 1) (forest rs), stripped_forest rs)

stripped_bytes : (pool : List ℕ) (f : Forest) → forest_bytes pool (stripped f) ≡ forest_bytes pool f
unfolding avp_bytes stated_data head_of
stripped_bytes pool none = refl
stripped_bytes pool (node r i t) = rw (stripped_bytes pool i, stripped_bytes pool t)

without_with : (ps : List ℕ) (rs : List Record) → map without (with_parents ps rs) ≡ map without rs
without_with [] rs = refl
without_with (p ∷ ps) [] = refl
without_with (p ∷ ps) (r ∷ rs) = rw (without_with ps rs)

-- ---- it is written as before

with_bytes : (pool ps : List ℕ) (rs : List Record) → forest_bytes pool (forest (with_parents ps rs)) ≡ forest_bytes pool (forest rs)
with_bytes pool ps rs =
    let with = with_parents ps rs in
    sym (stripped_bytes pool (forest with))
    ∙ ap (forest_bytes pool) (stripped_forest with ∙ ap forest (without_with ps rs) ∙ sym (stripped_forest rs))
    ∙ stripped_bytes pool (forest rs)

pub parented_bytes : (pool : List ℕ) (rs : List Record) → forest_bytes pool (forest (parented rs)) ≡ forest_bytes pool (forest rs)
unfolding parented
parented_bytes pool rs = with_bytes pool (told_parents rs) rs

-- ---- and keeps the rules

same_keeps : (allowed n p : ℕ) (r : Record) → keeps allowed n (with_parent p r) ≡ keeps allowed n r
unfolding keeps keeps_leaf stated_data head_of
same_keeps allowed n p r = refl

same_after : (p : ℕ) (r : Record) → allowed_after (with_parent p r) ≡ allowed_after r
unfolding allowed_after
same_after p r = refl

with_valid : (allowed n : ℕ) (ps : List ℕ) (rs : List Record) → Valid allowed n rs → Valid allowed n (with_parents ps rs)
with_valid allowed n [] rs v = v
with_valid allowed n (p ∷ ps) [] v = tt
with_valid allowed n (p ∷ ps) (r ∷ rs) v = rw (same_keeps allowed n p r, same_after p r) (v.0, with_valid (allowed_after r) n ps rs v.1)

pub parented_valid : (n : ℕ) (rs : List Record) → Valid 1 n rs → Valid 1 n (parented rs)
unfolding parented
parented_valid n rs = with_valid 1 n (told_parents rs) rs
