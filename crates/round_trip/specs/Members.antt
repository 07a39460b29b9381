-- Whose member a record is: its parent is a group that stands before it, and what stands between is in that group too.
use Rattle.std.specs.Prelude.{ℕ, ◌+◌, ◌≤◌, ◌≡◌, true, List, [], ◌∷◌, ◌++◌, length}
use Rattle.record.specs.Record.{Record}
use Rattle.record.specs.Table.{Every}
use Rattle.record.specs.Parents.{top_level}
use Rattle.rfc6733.specs.Writer.{is_group}

-- of the earlier records, the last of them first, the one of index p is the group of what stands at depth d
pub record GroupOf (earlier : List Record) (d p : ℕ) : Type 0 where
  pub between : List Record
  pub it : Record
  pub before : List Record
  pub table_is : earlier ≡ between ++ (it ∷ before)
  pub index_is : p ≡ length before
  pub kind_8 : is_group it ≡ true
  pub one_less : it.depth + 1 ≡ d
  pub its_members : Every (λ r. d ≤ r.depth) between

-- so of all records that stand after earlier ones; at depth 1 they have the mark
abbrev pub InGroups : List Record → List Record → Type 0
InGroups earlier [] = Unit {0}
InGroups earlier (r ∷ rs) =
    (r.depth ≡ 1 → r.parent ≡ top_level) × (2 ≤ r.depth → GroupOf earlier r.depth r.parent) × InGroups (r ∷ earlier) rs
