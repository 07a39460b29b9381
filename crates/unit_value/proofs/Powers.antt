-- Products with powers of ten: where a power moves from one factor to another, the product stays what it is.
use Rattle.std.proofs.Common.{◌≡◌, ℕ, zero, suc, ◌+◌, ◌*◌, ◌-◌, ◌/◌, ◌^◌, ◌<◌, ◌≤◌, ℤ, pos, negsuc, neg_ℤ, ◌*ℤ◌}
use Rattle.std.proofs.Common.{refl, sym, ap, ◌∙◌, lit≤, arith}
use Rattle.std.proofs.Math.Nat.{mul-le-mul_left, mul_assoc, one-le-pow, pow-le-pow_right, zero-mul}
use Rattle.std.proofs.lemmas.Grind.{pow_more}
use Rattle.std.proofs.lemmas.Nat.{pow-add}
use Rattle.std.specs.Ordering.{ordering_reverse}
use Rattle.unit_value.specs.UnitValues.{order}
use Rattle.unit_value.proofs.Wholes.{order_times, order_total}

pub ten_more : (m k : ℕ) → m * 10 ^ (k + 1) ≡ m * 10 ^ k * 10
ten_more m k = rw pow_more (omega arith)

pub passed : (m i k n : ℕ) → i < k → n / 10 < m * 10 ^ i → n < m * 10 ^ k
passed m i k n h less =
    let more : 10 ^ (i + 1) ≤ 10 ^ k = pow-le-pow_right (lit≤ tt) (omega arith) in
    omega (arith, ten_more m i, mul-le-mul_left m more)

power_moved : (m j k : ℕ) → k ≤ j → m * 10 ^ j ≡ m * 10 ^ (j - k) * 10 ^ k
power_moved m j k h =
    let whole : j ≡ j - k + k = omega arith in
    ap (λ n. m * 10 ^ n) whole ∙ ap (λ p. m * p) (pow-add 10 (j - k) k)
    ∙ sym (mul_assoc m (10 ^ (j - k)) (10 ^ k))

-- what both products have of the power is left out
pub shared : (m j n k : ℕ) → k ≤ j
    → order (pos (m * 10 ^ j)) (pos (n * 10 ^ k)) ≡ order (pos (m * 10 ^ (j - k))) (pos n)
shared m j n k h =
    ap (λ p. order (pos p) (pos (n * 10 ^ k))) (power_moved m j k h)
    ∙ order_times (m * 10 ^ (j - k)) n (10 ^ k) (one-le-pow k 10 (lit≤ tt))

pub shared_back : (m j n k : ℕ) → j ≤ k
    → order (pos (m * 10 ^ j)) (pos (n * 10 ^ k)) ≡ ordering_reverse (order (pos (n * 10 ^ (k - j))) (pos m))
shared_back m j n k h = order_total.antisymm _ _ ∙ ap ordering_reverse (shared n k m j h)

-- ---- with signs

opposite_times : (m p : ℕ) → neg_ℤ (pos m) *ℤ pos p ≡ neg_ℤ (pos (m * p))
opposite_times zero p = rw zero-mul
opposite_times (suc m) p = refl

times_times : (d : ℤ) (p q : ℕ) → d *ℤ pos p *ℤ pos q ≡ d *ℤ pos (p * q)
times_times (pos n) p q = ap pos (mul_assoc n p q)
times_times (negsuc n) p q = opposite_times (suc n * p) q ∙ ap (λ m. neg_ℤ (pos m)) (mul_assoc (suc n) p q)

pub powers_joined : (d : ℤ) (j k : ℕ) → d *ℤ pos (10 ^ j) *ℤ pos (10 ^ k) ≡ d *ℤ pos (10 ^ (j + k))
powers_joined d j k = times_times d (10 ^ j) (10 ^ k) ∙ ap (λ p. d *ℤ pos p) (sym (pow-add 10 j k))
