-- The kind of a record says whether it is a group.
use mathlib.Core.Path.{◌≡◌}
use mathlib.Core.Bool.{true, false}
use borrow.Author.Tests.{eq-eqb, ne_eqb}
use Rattle.record.specs.Kinds.{grouped}
use Rattle.rfc6733.specs.Writer.{is_group}
use Rattle.record.specs.Record.{Record}

module _ (r : Record) where
  pub is_group_lem : r.kind ≡ grouped → is_group r ≡ true
  is_group_lem e = eq-eqb r.kind grouped e

  pub no_group : (r.kind ≡ grouped → ⊥) → is_group r ≡ false
  no_group e = ne_eqb r.kind grouped e
