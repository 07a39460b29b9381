-- Request E2's comparison, of `unit_value::compare` itself: it is an order, and one number written in two ways is equal to itself. The contract
-- says that the answer is the definition's, of which these are laws (unit_value/proofs/Orders).
use Prim.Native.Nat.{ℕ, ◌^◌}
use mathlib.Core.Path.{◌≡◌, refl, sym, ◌∙◌}
use mathlib.Core.Bool.{true, false, ◌&&◌}
use mathlib.Core.Logic.{◌⊎◌, inl, inr}
use lib.IntN.{pos, ◌+ℤ◌, ◌*ℤ◌}
use Rattle.std.specs.Prelude.{Result, Ok, Err}
use Rattle.std.specs.Ordering.{ordering_reverse}
use Rattle.std.specs.declared.cmp.Ordering.{Ordering}
use Rattle.std.specs.declared.cmp.Ordering.TheVariants.{Less, Equal, Greater}
use Rattle.refusal.specs.Answer.{Refusal, accepted}
use Rattle.refusal.specs.declared.Refusal.TheVariants.{BadExponent}
use Rattle.unit_value.specs.declared.UnitValue.{UnitValue}
use Rattle.unit_value.specs.UnitValues.{in_range, compared}
use Rattle.refusal.proofs.AnswerOf.{answer_of_injective}
use Rattle.unit_value.proofs.Orders as orders
use Rattle.promises.proofs.OneOutcome.Calls.{Compare}

-- both exponents are taken
abbrev pub Taken : UnitValue → UnitValue → Type 0
Taken a b = (in_range a.exponent ≡ true) × (in_range b.exponent ≡ true)

-- an answer of the definition is the function's
is : (a b : UnitValue) (r : Result Ordering Refusal) (o : Ordering) → Compare a b r → compared a b ≡ accepted o → r ≡ Ok o
is a b r o p e = answer_of_injective r (Ok o) (p ∙ e)

was : (a b : UnitValue) (o : Ordering) → Compare a b (Ok o) → compared a b ≡ accepted o
was a b o p = sym p

-- ---- one of three, or refused

module _ (a b : UnitValue) (r : Result Ordering Refusal) (p : Compare a b r) where
  pub one_of_three : Taken a b → (r ≡ Ok Less) ⊎ ((r ≡ Ok Equal) ⊎ (r ≡ Ok Greater))
  one_of_three taken =
      elim (orders.one_of_three a b taken.0 taken.1) [
        | inl e ↦ inl (is a b r Less p e)
        | inr (inl e) ↦ inr (inl (is a b r Equal p e))
        | inr (inr e) ↦ inr (inr (is a b r Greater p e))
      ]

  pub refused_outside : in_range a.exponent && in_range b.exponent ≡ false → r ≡ Err BadExponent
  refused_outside outside = answer_of_injective r (Err BadExponent) (p ∙ (orders.refused_is a b BadExponent).1 (refl, outside))

-- ---- an order

pub antisymmetric : (a b : UnitValue) (o : Ordering) (r : Result Ordering Refusal) → Compare a b (Ok o) → Compare b a r → r ≡ Ok (ordering_reverse o)
antisymmetric a b o r p q = is b a r (ordering_reverse o) q (orders.compared_reversed a b o (was a b o p))

module _ (a b c : UnitValue) (r : Result Ordering Refusal) (q : Compare a c r) where
  pub transitive : Compare a b (Ok Less) → Compare b c (Ok Less) → r ≡ Ok Less
  transitive p p' = is a c r Less q (orders.less_then_less a b c (was a b Less p) (was b c Less p'))

  -- what is equal stands to all others alike
  pub equal_then : (o : Ordering) → Compare a b (Ok Equal) → Compare b c (Ok o) → r ≡ Ok o
  equal_then o p p' = is a c r o q (orders.equal_then a b c o (was a b Equal p) (was b c o p'))

  pub then_equal : (o : Ordering) → Compare a b (Ok o) → Compare b c (Ok Equal) → r ≡ Ok o
  then_equal o p p' = is a c r o q (orders.then_equal a b c o (was a b o p) (was b c Equal p'))

-- ---- one number, written in two ways

module _ (a b : UnitValue) (r : Result Ordering Refusal) (p : Compare a b r) (taken : Taken a b) where
  -- b is a with k zeros moved from its Exponent to its Value-Digits
  pub zeros_moved : (k : ℕ) → b.digits ≡ a.digits *ℤ pos (10 ^ k) → b.exponent +ℤ pos k ≡ a.exponent → r ≡ Ok Equal
  zeros_moved k digits exponent = is a b r Equal p (orders.zeros_moved a b taken.0 taken.1 k digits exponent)

  pub zeros_equal : a.digits ≡ pos 0 → b.digits ≡ pos 0 → r ≡ Ok Equal
  zeros_equal e f = is a b r Equal p (orders.zeros_equal a b taken.0 taken.1 e f)
