-- What checking a table answers, and what is said of a run of it.
use Rattle.std.specs.Prelude.{ℕ, ◌+◌, ◌≤◌, ◌<◌, min, ◌≡◌, cond, ltb, List, [], ◌∷◌, length, drop, Result, Ok, Err}
use Rattle.record.specs.Record.{Record}
use Rattle.record.specs.Parents.{parent_at}
use Rattle.rfc6733.specs.Writer.{is_group, head_of, keepers}
use Rattle.rules.specs.declared.BadRecord.{BadRecord}
use Rattle.rules.specs.declared.Run.{Run}

-- the bytes that a record writes itself: a group its header, since its members write their own; another its padded AVP
unfoldable pub own_size : Record → ℕ
own_size r = cond (is_group r) (head_of r) (r.length + r.padding)

abbrev pub own_sizes : List Record → ℕ
own_sizes [] = 0
own_sizes (r ∷ rs) = own_size r + own_sizes rs

-- no message has so many bytes
abbrev pub too_many : ℕ
too_many = 16777216

-- the first record that breaks a rule, where n bytes are there to point into; if none does, the bytes of all
unfoldable pub checked_of : ℕ → List Record → Result ℕ BadRecord
checked_of n rs =
    let kept = keepers [] 1 n rs in
    cond (ltb kept (length rs)) (Err (record { 0 = kept })) (Ok (min (own_sizes rs) too_many))

-- ---- a run: the records of a table from one on, down to one that is less deep

-- After records of these depths the run of a depth has come to an index: what it passed keeps the rules and takes
-- so many bytes.
pub record Walked (n depth : ℕ) (earlier : List ℕ) (from : ℕ) (rs : List Record) (index size : ℕ) : Type 0 where
  -- the depths of all records before it, the depth that is allowed next, and the bytes
  pub passed : List ℕ
  pub allowed : ℕ
  pub bytes : ℕ
  pub counted : length passed ≡ index
  pub kept_is : from + keepers earlier depth n (drop from rs) ≡ index + keepers passed allowed n (drop index rs)
  pub bytes_are : own_sizes (drop from rs) ≡ bytes + own_sizes (drop index rs)
  pub size_is : size ≡ min bytes too_many
  -- a record of the run's own depth is allowed next, and one that is deeper is not
  pub level : depth ≤ allowed
  pub no_deeper : (r : Record) (ts : List Record) → drop index rs ≡ r ∷ ts → depth < r.depth → allowed < r.depth
  -- what it passed is no less deep, so it is no parent of a record that is not deeper
  pub parents_stay : (d : ℕ) → d ≤ depth → parent_at passed d ≡ parent_at earlier d

abbrev pub Ended : ℕ → List Record → Type 0
Ended depth [] = Unit {0}
Ended depth (r ∷ rs) = r.depth < depth

-- after these depths a record of the run breaks a rule
pub record BadAt (n depth : ℕ) (earlier : List ℕ) (from : ℕ) (rs : List Record) (index : ℕ) : Type 0 where
  pub kept_is : from + keepers earlier depth n (drop from rs) ≡ index
  pub some : index < length rs

-- what is said of a run from a record on, whatever the depths before it are that give its records their parent
unfoldable pub Checks : (n from depth parent : ℕ) → List Record → Result Run BadRecord → Type 0
Checks n from depth parent rs (Err bad) =
    (earlier : List ℕ) → length earlier ≡ from → parent_at earlier depth ≡ parent
    → BadAt n depth earlier from rs bad.0
Checks n from depth parent rs (Ok run) =
    (from ≤ run.index)
    × (run.size ≤ too_many)
    × ((earlier : List ℕ) → length earlier ≡ from → parent_at earlier depth ≡ parent
    → Walked n depth earlier from rs run.index run.size × Ended depth (drop run.index rs))
