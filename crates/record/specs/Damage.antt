-- A table of which one record was found otherwise: what may differ, record by record. No other record changes, but for
-- the error flags of the groups around it.
use Rattle.std.specs.Prelude.{ℕ, zero, suc, ◌≡◌, List, [], ◌∷◌, length}
use Rattle.record.specs.Record.{Record}
use Rattle.record.specs.Table.{with_found}

-- y is x but for its kind, its error flags and its value
abbrev pub ButFound : Record → Record → Type 0
ButFound x y = y ≡ with_found x y.kind y.errors y.value

-- y is x but for its error flags
abbrev pub ButErrors : Record → Record → Type 0
ButErrors x y = y ≡ with_found x x.kind y.errors x.value

-- the record of index i is r
abbrev pub At : List Record → ℕ → Record → Type 0
At [] i r = ⊥
At (x ∷ rs) zero r = x ≡ r
At (x ∷ rs) (suc i) r = At rs i r

-- ---- the groups around a record, which the parents name

-- The record of index j is in a group, and i is its parent. At depth 1 a record is in none, and its parent is no index.
pub record IsParent (rs : List Record) (i j : ℕ) : Type 0 where
  pub member : Record
  pub there : At rs j member
  pub in_group : member.depth ≡ 1 → ⊥
  pub parent_is : member.parent ≡ i

-- The groups around the record of index k: its parent, the parent of that one, and so on.
pub data Around (rs : List Record) (k : ℕ) : ℕ → Type 0 where
  its_group : {i : ℕ} → IsParent rs i k → Around rs k i
  group_of : {i j : ℕ} → Around rs k j → IsParent rs i j → Around rs k i

-- ---- the table afterwards

-- The table rs became rs', where the data of the record of index k are others.
pub record Damaged (rs : List Record) (k : ℕ) (rs' : List Record) : Type 0 where
  pub same_count : length rs' ≡ length rs
  -- the record itself differs at most in its kind, its error flags and its value
  pub itself : (x y : Record) → At rs k x → At rs' k y → ButFound x y
  -- any other differs at most in its error flags
  pub others : (i : ℕ) (x y : Record) → (i ≡ k → ⊥) → At rs i x → At rs' i y → ButErrors x y
  -- and not even in these, unless it is a group around the record
  pub untouched : (i : ℕ) (x y : Record) → (i ≡ k → ⊥) → (Around rs k i → ⊥) → At rs i x → At rs' i y → y ≡ x
