-- What a complete AVP is: docs/FORMAT.md, 1.5, as a consequence of the refusals in order. Its header is two or three
-- words, so with its padding it is a whole number of words, and at least two.
use Prim.Native.Nat.{ℕ, ◌+◌, ◌-◌, ◌%◌, ◌≤◌}
use mathlib.Core.Path.{◌≡◌, refl}
use mathlib.Core.Bool.{Bool, true, false, cond}
use mathlib.Core.List.{List}
use native.Mathlib.Omega.{arith}
use lib.ListN.{length}
use Rattle.flags.specs.Flags.{bit}
use Rattle.rfc6733.specs.Avp.{flags, avp_length, vendor_bit, head_size, data_size, padding, avp_size, avp_refusals, complete, Exact}
use Rattle.refusal.proofs.Tests.{tests}

-- a header is two or three words
pub record Head (f : ℕ) : Type 0 where
  pub low : 8 ≤ head_size f
  pub high : head_size f ≤ 12
  pub words : head_size f % 4 ≡ 0

head_by : (b : Bool) → (8 ≤ cond b 12 8) × (cond b 12 8 ≤ 12) × (cond b 12 8 % 4 ≡ 0)
head_by true = omega arith
head_by false = omega arith

pub head : (f : ℕ) → Head f
unfolding head_size
head f = let w = head_by (bit vendor_bit f) in record { low = w.0; high = w.1; words = w.2 }

-- An AVP isn't complete if its 8 bytes are absent, its length is below 8, exceeds what is left or (vendor bit
-- set) is below 12, or its padding is absent. (A header is at least 8 bytes, and the padded size at least the length.)
pub record Whole (s : List ℕ) : Type 0 where
  pub eight : 8 ≤ length s
  pub long : head_size (flags s) ≤ avp_length s
  pub room : avp_size s ≤ length s

-- with its padding an AVP is its header and its data in whole words
pub record Sizes (s : List ℕ) : Type 0 where
  pub padding_is : avp_size s ≡ avp_length s + padding (data_size s)
  pub few : padding (data_size s) ≤ 3
  pub even : (data_size s + padding (data_size s)) % 4 ≡ 0
  pub data_is : data_size s ≡ avp_length s - head_size (flags s)

padding_few : (n : ℕ) → (padding n ≤ 3) × ((n + padding n) % 4 ≡ 0)
unfolding padding
padding_few n = omega arith

pub sizes : (s : List ℕ) → Sizes s
unfolding avp_size data_size
sizes s = let p = padding_few (data_size s) in record { padding_is = refl; few = p.0; even = p.1; data_is = refl }

pub complete_whole : (s : List ℕ) → complete s ≡ true → Whole s
unfolding complete avp_refusals
complete_whole s e = let h = simp tests at e in search

-- all of this of an AVP's own bytes
pub exact_sizes : (a : List ℕ) → Exact a → Whole a × Sizes a × Head (flags a)
exact_sizes a e = (complete_whole a e.whole, sizes a, head (flags a))

pub whole_complete : (s : List ℕ) → Whole s → complete s ≡ true
unfolding complete avp_refusals
whole_complete s w = let h = head (flags s) in let z = sizes s in simp tests (search arith)
