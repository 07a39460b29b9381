-- What the number of a value of kind 0 says. Data of a kind of text are read as text, whose number is as far as the reading from the front
-- goes, and that is the longest prefix. Data of other kinds are of kind 0 only without a number: a kind that has one is not 0.
use Prim.Native.Nat.{ℕ, ◌<◌}
use mathlib.Core.Path.{◌≡◌, refl}
use mathlib.Core.Bool.{true, false}
use mathlib.Core.Logic.{inl, inr}
use mathlib.Core.List.{List}
use lib.ListN.{length}
use lib.Dec.{ltb, eqb}
use Rattle.octets.specs.Octets.{be}
use Rattle.octets.specs.Run.{Tree, tiles}
use Rattle.rfc3629.specs.Prefix.{LongestPrefix}
use Rattle.refusal.proofs.Tests.{decide}
use Rattle.flags.specs.Flags.{data_value, data_length, flag}
use Rattle.record.specs.Kinds.{unhandled, grouped, address}
use Rattle.rfc6733.specs.Value.{fixed, kinds32, kinds64, texts, one_of, data_as}
use Rattle.record.specs.Value.{Value, value, text}
use Rattle.rfc6733.specs.Dictionary.{Dictionary, family_address, bare_address}
use Rattle.rfc6733.specs.Records.{errors, group_value}
use Rattle.rfc6733.proofs.Listed.{of_listed}
use Rattle.record.proofs.Chosen.{either}
use Rattle.record.proofs.Breaks.{Handled, text_breaks, Silent, no_number, a_number}

-- ---- text

read_as_text : (as_address : List ℕ → Value) (s : List ℕ) (k : ℕ) → one_of k texts ≡ true → data_as as_address k s ≡ text k s
unfolding data_as
read_as_text as_address s = of_listed (λ k. data_as as_address k s ≡ text k s) texts (refl, (refl, (refl, tt)))

pub of_text : (as_address : List ℕ → Value) (k : ℕ) (s : List ℕ) → one_of k texts ≡ true → (data_as as_address k s).kind ≡ unhandled
    → ((data_as as_address k s).number < length s) × LongestPrefix s (data_as as_address k s).number
of_text as_address k s t = rw (read_as_text as_address s k t) (text_breaks k s (of_listed Handled texts (refl, (refl, (refl, tt))) k t))

-- ---- all else

ipv4 : (e n : ℕ) → Silent (value address e n)
ipv4 e n = a_number address e n refl

pub bare_silent : (s : List ℕ) → Silent (bare_address s)
unfolding bare_address
bare_silent s = search (either Silent, no_number, ipv4) depth 9

pub family_silent : (s : List ℕ) → Silent (family_address s)
unfolding family_address
family_silent s = search (either Silent, no_number, ipv4) depth 9

pub group_silent : (D : Dictionary) (inner : Tree) → Silent (group_value D inner)
unfolding group_value
group_silent D inner = either Silent (tiles inner) (no_number grouped (errors D inner)) (no_number unhandled data_value)

fixed_silent : (w k : ℕ) (s : List ℕ) → Handled k → Silent (fixed w k s)
unfolding fixed
fixed_silent w k s handled = either Silent (ltb (length s) w) (no_number unhandled data_length) (a_number k (flag (ltb w (length s)) data_length) (be w s 0) handled)

pub of_others : (as_address : List ℕ → Value) (k : ℕ) (s : List ℕ) → Silent (as_address s) → one_of k texts ≡ false → Silent (data_as as_address k s)
unfolding data_as
of_others as_address k s at_address t =
    elim (decide (one_of k kinds32)) [
      | inl e ↦ rw e (fixed_silent 4 k s (of_listed Handled kinds32 (refl, (refl, (refl, (refl, (refl, tt))))) k e))
      | inr e ↦
          elim (decide (one_of k kinds64)) [
            | inl f ↦ rw (e, f) (fixed_silent 8 k s (of_listed Handled kinds64 (refl, (refl, (refl, tt))) k f))
            | inr f ↦ rw (e, f, t) (either Silent (eqb k address) at_address (no_number k 0))
          ]
    ]
