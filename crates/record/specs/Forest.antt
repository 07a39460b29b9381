-- A table of records as a forest: each record with its members under it. It is built from the last record on, with no count.
use Rattle.std.specs.Prelude.{ℕ, ◌+◌, cond, List, [], ◌∷◌, ◌++◌, leb}
use Rattle.record.specs.Record.{Record}

-- no record; or a record, its members, and what follows them
pub data Forest : Type 0 where
  none : Forest
  node : Record → Forest → Forest → Forest

-- the leading ones of depth d or deeper, and what is after them
abbrev pub leading : ℕ → Forest → Forest
leading d none = none
leading d (node r members rest) = cond (leb d r.depth) (node r members (leading d rest)) none

abbrev pub following : ℕ → Forest → Forest
following d none = none
following d (node r members rest) = cond (leb d r.depth) (following d rest) (node r members rest)

-- a record before a forest: the leading ones that are deeper are its members
abbrev pub plant : Record → Forest → Forest
plant r f = node r (leading (r.depth + 1) f) (following (r.depth + 1) f)

abbrev pub forest : List Record → Forest
forest [] = none
forest (r ∷ rs) = plant r (forest rs)

-- the records again, a group before its members
abbrev pub flat : Forest → List Record
flat none = []
flat (node r members rest) = r ∷ (flat members ++ flat rest)
