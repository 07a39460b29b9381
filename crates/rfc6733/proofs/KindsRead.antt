-- What holds of the kind that data are read as, of Unhandled and of Address holds of the kind of what is read: the kind of a value is
-- always one of these three. So a law of kinds is shown of three numbers, and not of each way to read.
use Prim.Native.Nat.{ℕ}
use mathlib.Core.List.{List}
use Rattle.rfc6733.specs.Value.{fixed, data_as}
use Rattle.record.specs.Value.{Value, text}
use Rattle.record.specs.Kinds.{unhandled, address}
use Rattle.rfc6733.specs.Dictionary.{family_address, bare_address}
use Rattle.record.proofs.Chosen.{either}

-- P holds of the kind of v
pub record Kind (P : ℕ → Type 0) (v : Value) : Type 0 where
  pub holds : P v.kind

module _ (P : ℕ → Type 0) (none : P unhandled) where
  pub kind_read : (k : ℕ) → P k → (s : List ℕ) (as_address : List ℕ → Value) → Kind P (as_address s) → Kind P (data_as as_address k s)
  unfolding data_as fixed text
  kind_read k own s as_address h = search (either (Kind P)) depth 9

  module _ (at_address : P address) (s : List ℕ) where
    pub bare_kind : Kind P (bare_address s)
    unfolding bare_address
    bare_kind = search (either (Kind P)) depth 9

    pub family_kind : Kind P (family_address s)
    unfolding family_address
    family_kind = search (either (Kind P)) depth 9
