-- What the number of a value of kind 0 says. That of ill-formed text is as far as the reading from the front goes, and that is the longest
-- prefix. A value whose kind has a number is not of kind 0.
use Prim.Native.Nat.{ℕ, ◌<◌}
use mathlib.Core.Path.{◌≡◌, refl}
use mathlib.Core.Bool.{false}
use mathlib.Core.Logic.{inl, inr}
use mathlib.Core.List.{List}
use lib.ListN.{length}
use lib.Dec.{eqb}
use borrow.Author.Tests.{eqb-false}
use Rattle.rfc3629.specs.Prefix.{LongestPrefix}
use Rattle.rfc3629.specs.Utf8.{well_formed}
use Rattle.rfc3629.proofs.Prefixes.{longest, broke_before_end}
use Rattle.refusal.proofs.Tests.{decide}
use Rattle.record.specs.Kinds.{unhandled}
use Rattle.record.specs.Value.{Value, value, text}

-- a kind that is not 0
abbrev pub Handled : ℕ → Type 0
Handled k = eqb k unhandled ≡ false

pub text_breaks : (k : ℕ) (s : List ℕ) → Handled k → (text k s).kind ≡ unhandled
    → ((text k s).number < length s) × LongestPrefix s (text k s).number
unfolding text
text_breaks k s handled is =
    elim (decide (well_formed s)) [
      | inl e ↦ absurd (eqb-false k unhandled handled (rw e at is))
      | inr e ↦ rw e (broke_before_end s e, longest s)
    ]

-- a value of kind 0 has no number
pub record Silent (v : Value) : Type 0 where
  pub zero : v.kind ≡ unhandled → v.number ≡ 0

pub no_number : (k e : ℕ) → Silent (value k e 0)
no_number k e = record { zero = λ is. refl }

pub a_number : (k e n : ℕ) → Handled k → Silent (value k e n)
a_number k e n handled = record { zero = λ is. absurd (eqb-false k unhandled handled is) }
