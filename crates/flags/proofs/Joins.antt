-- Laws of joined flags: associative, commutative, with 0, below 16.
use Rattle.std.proofs.Common.{◌≡◌, ℕ, ◌<◌, Bool, true, false, arith}
use Rattle.std.specs.Int.Bits.{or_zero_l, or_zero_r}
use Rattle.std.proofs.lemmas.Nat.{or_comm}
use Rattle.std.proofs.lemmas.Nat.Bits.{bit_at_or, same_from_bits}
use lib.Bits.{or_lt}
use Rattle.flags.specs.Flags.{flag, join}

pub join_assoc : (a b c : ℕ) → join (join a b) c ≡ join a (join b c)
unfolding join
join_assoc a b c = same_from_bits _ _ (λ i. simp bit_at_or (omega arith))

pub join_comm : (a b : ℕ) → join a b ≡ join b a
unfolding join
join_comm = or_comm

pub zero_join : (a : ℕ) → join 0 a ≡ a
unfolding join
zero_join = or_zero_l

pub join_zero : (a : ℕ) → join a 0 ≡ a
unfolding join
join_zero = or_zero_r

pub join_small : (a b : ℕ) → a < 16 → b < 16 → join a b < 16
unfolding join
join_small = or_lt 4

pub flag_small : (b : Bool) (n : ℕ) → n < 16 → flag b n < 16
flag_small true n h = h
flag_small false n h = omega arith
