-- Parents (docs/FORMAT.md, 6.5): the index of the last earlier record one depth less. The depths of a table tell them all.
use Rattle.std.specs.Prelude.{ℕ, ◌-◌, cond, List, [], ◌∷◌, length, eqb}
use Rattle.record.specs.Record.{Record}

-- at depth 1 there is none, and this stands for it
abbrev pub top_level : ℕ
top_level = 4294967295

-- ---- by walking back: earlier depths stand with the last first, so the index of one is how many stand after it here

-- the index of the last record of depth d
abbrev pub last_of : ℕ → List ℕ → ℕ
last_of d [] = top_level
last_of d (e ∷ earlier) = cond (eqb e d) (length earlier) (last_of d earlier)

-- the parent of a record of depth d: the last earlier one, one depth less
abbrev pub parent_at : List ℕ → ℕ → ℕ
parent_at earlier d = cond (eqb d 1) top_level (last_of (d - 1) earlier)

-- those of the records of these depths, after earlier ones
abbrev pub parents : List ℕ → List ℕ → List ℕ
parents earlier [] = []
parents earlier (d ∷ ds) = parent_at earlier d ∷ parents (d ∷ earlier) ds

-- ---- in a table

abbrev pub depths : List Record → List ℕ
depths [] = []
depths (r ∷ rs) = r.depth ∷ depths rs

-- the parents that its records have, and those that its depths tell
abbrev pub own_parents : List Record → List ℕ
own_parents [] = []
own_parents (r ∷ rs) = r.parent ∷ own_parents rs

abbrev pub told_parents : List Record → List ℕ
told_parents rs = parents [] (depths rs)

abbrev pub with_parent : ℕ → Record → Record
with_parent p r =
    record {
      code = r.code;
      flags = r.flags;
      length = r.length;
      vendor = r.vendor;
      place = r.place;
      depth = r.depth;
      kind = r.kind;
      errors = r.errors;
      padding = r.padding;
      pads = r.pads;
      value = r.value;
      parent = p;
    }

-- a parent for each, from the first on
abbrev pub with_parents : List ℕ → List Record → List Record
with_parents [] rs = rs
with_parents (p ∷ ps) [] = []
with_parents (p ∷ ps) (r ∷ rs) = with_parent p r ∷ with_parents ps rs

-- its records with the parents that its depths tell
unfoldable pub parented : List Record → List Record
parented rs = with_parents (told_parents rs) rs
