-- How whole numbers stand: the library's laws of their order, and what becomes of it under products and signs.
use Rattle.std.proofs.Common.{◌≡◌, ℕ, ◌*◌, ◌<◌, ◌≤◌, ℤ, pos, negsuc, true, false, refl, inl, inr, arith}
use Rattle.std.proofs.Math.Nat.{mul-le-mul_right, mul-lt-mul_of_pos_right}
use Rattle.std.proofs.lemmas.Bool.{cases_lt}
use Rattle.std.proofs.Math.Dec.{ltb}
use Rattle.std.proofs.lemmas.Bool.Decides.{nat_tests}
use Rattle.std.proofs.lemmas.Cmp.{int_cmp_total}
use Rattle.std.specs.Cmp.{IsTotalOrder}
use Rattle.std.specs.Int.Signed.{le_z}
use Rattle.std.specs.Ordering.{nat_cmp}
use Rattle.std.specs.Prelude.{nat_abs}
use Rattle.std.specs.declared.cmp.Ordering.TheVariants.{Less, Greater}
use Rattle.unit_value.specs.UnitValues.{order}

pub order_total : IsTotalOrder order
unfolding order
order_total = int_cmp_total

-- ---- natural numbers

pub natural : (a b : ℕ) → order (pos a) (pos b) ≡ nat_cmp a b
unfolding order
natural a b = grind (arith, nat_tests)

pub greater : (a b : ℕ) → b < a → Greater ≡ order (pos a) (pos b)
unfolding order
greater a b h = grind (arith, nat_tests)

test_times : (a b p : ℕ) → 0 < p → ltb (a * p) (b * p) ≡ ltb a b
test_times a b p some =
    elim (cases_lt a b) [
      | inl h ↦ let more : a * p < b * p = mul-lt-mul_of_pos_right h some in grind (arith, nat_tests)
      | inr h ↦ let more : b * p ≤ a * p = mul-le-mul_right p h in grind (arith, nat_tests)
    ]

pub order_times : (a b p : ℕ) → 0 < p → order (pos (a * p)) (pos (b * p)) ≡ order (pos a) (pos b)
unfolding order
order_times a b p some = rw (test_times a b p some, test_times b a p some)

-- ---- and with signs

pub both_natural : (x y : ℤ) → le_z (pos 0) x ≡ true → le_z (pos 0) y ≡ true
    → order x y ≡ order (pos (nat_abs x)) (pos (nat_abs y))
both_natural (pos a) (pos b) e f = refl
both_natural (pos a) (negsuc b) e f = cc
both_natural (negsuc a) y e f = cc

pub both_negative : (x y : ℤ) → le_z (pos 0) x ≡ false → le_z (pos 0) y ≡ false
    → order x y ≡ order (pos (nat_abs y)) (pos (nat_abs x))
unfolding order
both_negative (pos a) y e f = grind (arith, nat_tests)
both_negative (negsuc a) (pos b) e f = grind (arith, nat_tests)
both_negative (negsuc a) (negsuc b) e f = grind (arith, nat_tests)

pub natural_negative : (x y : ℤ) → le_z (pos 0) x ≡ true → le_z (pos 0) y ≡ false → order x y ≡ Greater
unfolding order
natural_negative (pos a) (pos b) e f = grind (arith, nat_tests)
natural_negative (pos a) (negsuc b) e f = refl
natural_negative (negsuc a) y e f = cc

pub negative_natural : (x y : ℤ) → le_z (pos 0) x ≡ false → le_z (pos 0) y ≡ true → order x y ≡ Less
unfolding order
negative_natural (pos a) y e f = grind (arith, nat_tests)
negative_natural (negsuc a) (pos b) e f = refl
negative_natural (negsuc a) (negsuc b) e f = cc
