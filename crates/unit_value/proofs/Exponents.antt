-- An exponent that is taken is at least -18, so that 18 more is a natural number; and it is at most 18.
use Rattle.std.proofs.Common.{◌≡◌, ℕ, ◌+◌, ◌≤◌, ℤ, pos, negsuc, ◌+ℤ◌, true, refl, ap, ◌∙◌, arith}
use Rattle.std.proofs.Math.IntN.{+ℤ_assoc, +ℤ_comm}
use Rattle.std.proofs.lemmas.Bool.Decides.{nat_tests}
use Rattle.std.specs.Prelude.{nat_abs}
use Rattle.unit_value.specs.UnitValues.{in_range, tens}

tens_is : (e : ℤ) → in_range e ≡ true → e +ℤ pos 18 ≡ pos (tens e)
unfolding in_range tens
tens_is (pos n) taken = refl
tens_is (negsuc n) taken = grind (arith, nat_tests)

pub tens_few : (e : ℤ) → in_range e ≡ true → tens e ≤ 36
unfolding in_range tens
tens_few (pos n) taken = grind (arith, nat_tests)
tens_few (negsuc n) taken = grind (arith, nat_tests)

pub tens_more : (k : ℕ) (e : ℤ) → in_range e ≡ true → tens (e +ℤ pos k) ≡ k + tens e
unfolding tens
tens_more k e taken =
    ap tens (+ℤ_comm e (pos k))
    ∙ ap nat_abs (+ℤ_assoc (pos k) e (pos 18) ∙ ap (λ z. pos k +ℤ z) (tens_is e taken))
