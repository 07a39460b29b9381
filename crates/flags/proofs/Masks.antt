-- A flags byte by masks, as the code asks it, and by division, as the definition says it. Said once over the bit.
use Rattle.std.proofs.Common.{◌≡◌, ℕ, zero, suc, ◌*◌, ◌/◌, ◌%◌, ◌^◌, ◌<◌, not, arith}
use Rattle.std.proofs.lemmas.Nat.Bits.{and_pow}
use lib.Dec.{eqb}
use lib.Bits.{bit_and}
use lib.Pow.{pow_pos}
use borrow.Author.Tests.{eq-eqb, ne_eqb}
use Rattle.flags.specs.Flags.{bit}

-- b is one bit of n, and m its mask
one_bit : (n m b : ℕ) → bit_and n m ≡ b * m → 0 < m → b < 2 → not (eqb (bit_and n m) 0) ≡ eqb b 1
one_bit n m zero e h l = let z : bit_and n m ≡ 0 = omega arith in rw (eq-eqb _ _ z)
one_bit n m (suc zero) e h l = let z : (bit_and n m ≡ 0 → ⊥) = λ k. omega arith in rw (ne_eqb _ _ z)
one_bit n m (suc (suc b)) e h l = absurd (omega arith)

-- the mask of bit k
pub mask_bit : (k n : ℕ) → not (eqb (bit_and n (2 ^ k)) 0) ≡ bit k n
unfolding bit
mask_bit k n = one_bit n (2 ^ k) (n / 2 ^ k % 2) (and_pow n k) (pow_pos k) (omega arith)
