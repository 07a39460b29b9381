-- The rules of a table (docs/FORMAT.md, 8.3), fact by fact.
use Rattle.std.specs.Prelude.{ℕ, ◌+◌, ◌-◌, ◌%◌, ◌^◌, ◌≤◌, ◌≡◌, true, false, List, [], ◌∷◌}
use Rattle.flags.specs.Flags.{bit}
use Rattle.rfc6733.specs.Avp.{vendor_bit, padding}
use Rattle.record.specs.Kinds.{time}
use Rattle.record.specs.Record.{Record}
use Rattle.record.specs.Forest.{Forest, none, node}
use Rattle.rfc6733.specs.Writer.{is_group, head_of, stated_data, keeps, allowed_after}

-- a group has no padding of its own
pub record Unpadded (r : Record) : Type 0 where
  pub padding_is : r.padding ≡ 0
  pub pads_are : r.pads ≡ 0

-- the data of a record that is no group lie within n bytes, and its padding is theirs, the unused bytes 0
pub record Leaf (n : ℕ) (r : Record) : Type 0 where
  pub long : head_of r ≤ r.length
  pub within : r.place + stated_data r ≤ n
  pub padding_is : r.padding ≡ padding (stated_data r)
  pub unused : r.pads % 256 ^ (3 - r.padding) ≡ 0

-- a record that keeps the rules where a depth is allowed at most, and n bytes are there to point into
pub record Good (allowed n : ℕ) (r : Record) : Type 0 where
  pub some : 1 ≤ r.depth
  pub most : r.depth ≤ 64
  pub allows : r.depth ≤ allowed
  pub kinds : r.kind ≤ time
  pub no_vendor : bit vendor_bit r.flags ≡ false → r.vendor ≡ 0
  pub group : is_group r ≡ true → Unpadded r
  pub leaf : is_group r ≡ false → Leaf n r

-- all records of a table keep the rules, its first with the depth that is allowed
abbrev pub Valid : ℕ → ℕ → List Record → Type 0
Valid allowed n [] = Unit {0}
Valid allowed n (r ∷ rs) = (keeps allowed n r ≡ true) × Valid (allowed_after r) n rs

-- all records of a forest keep those of the rules that do not look at another record
abbrev pub Kept : ℕ → Forest → Type 0
Kept n none = Unit {0}
Kept n (node r members rest) = Good r.depth n r × Kept n members × Kept n rest
