-- A scaled value has the sign of its digits, since the power of ten is positive.
use Rattle.std.proofs.Common.{◌≡◌, ℕ, zero, suc, ◌+◌, ◌*◌, ◌^◌, ◌<◌, ℤ, pos, negsuc, ◌*ℤ◌, arith, lit≤}
use Rattle.std.proofs.Math.Nat.{one-le-pow}
use Rattle.std.specs.Prelude.{nat_abs}
use Rattle.std.proofs.lemmas.Bool.Decides.{nat_tests}
use Rattle.std.proofs.lemmas.Int.{unsigned_abs-mul, to_z-of_z}
use Rattle.std.specs.Int.Signed.{le_z}
use Rattle.unit_value.specs.declared.UnitValue.{UnitValue}
use Rattle.unit_value.specs.UnitValues.{scaled, tens}
use Rattle.unit_value.proofs.Wholes.{both_natural, both_negative, natural_negative, negative_natural}

pub scaled_magnitude : (u : UnitValue) → nat_abs (scaled u) ≡ nat_abs u.digits * 10 ^ tens u.exponent
unfolding scaled
scaled_magnitude u = unsigned_abs-mul u.digits (pos (10 ^ tens u.exponent))

sign_times : (d : ℤ) (p : ℕ) → 0 < p → le_z (pos 0) (d *ℤ pos p) ≡ le_z (pos 0) d
sign_times d zero h = absurd (omega arith)
sign_times (pos n) (suc p) h = grind (arith, nat_tests)
sign_times (negsuc n) (suc p) h = let some : suc n * suc p ≡ suc (n * suc p + p) = omega arith in rw some

pub scaled_sign : (u : UnitValue) → le_z (pos 0) (scaled u) ≡ le_z (pos 0) u.digits
unfolding scaled
scaled_sign u = sign_times u.digits (10 ^ tens u.exponent) (one-le-pow (tens u.exponent) 10 (lit≤ tt))

-- how they stand by their signs; and what the machine reads of a number that fits is the number
pub ruleset signs = (to_z-of_z, scaled_sign, both_natural, both_negative, natural_negative, negative_natural)
