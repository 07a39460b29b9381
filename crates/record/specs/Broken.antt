-- What the value of a record of kind 0 says (docs/FORMAT.md, 4.4): where its text broke, and of all else nothing.
use Rattle.std.specs.Prelude.{ℕ, ◌<◌, ◌≡◌, Bool, true, false, List, length}
use Rattle.rfc3629.specs.Prefix.{LongestPrefix}
use Rattle.record.specs.Kinds.{unhandled}
use Rattle.record.specs.Record.{Record}

-- the record r of some data, which by its code are text or not
pub record TellsBreak (is_text : Bool) (own : List ℕ) (r : Record) : Type 0 where
  -- of text: less than the data, the longest prefix of them that is well-formed
  pub of_text : is_text ≡ true → r.kind ≡ unhandled → (r.value < length own) × LongestPrefix own r.value
  -- of all else: 0
  pub of_others : is_text ≡ false → r.kind ≡ unhandled → r.value ≡ 0
