-- A part of a word of four bytes is its quotient or its remainder, and its end is moved to the front by a shift.
use Prim.Native.Nat.{ℕ, zero, suc, ◌+◌, ◌-◌, ◌*◌, ◌/◌, ◌%◌, ◌^◌, ◌≤◌}
use mathlib.Core.Path.{◌≡◌, ap, ◌∙◌}
use mathlib.Core.List.{List}
use native.Mathlib.Nat.{add_assoc}
use native.Mathlib.Omega.{arith}
use lib.ListN.{length, get_or, drop, get_or-eq_default}
use lib.Seq.{get_or-drop}
use Rattle.octets.specs.Octets.{be, Bytes}

-- ---- the parts of a word

module _ (s : List ℕ) (h : Bytes s) (at : ℕ) where
  abbrev byte : ℕ → ℕ
  byte i = get_or s i 0

  further : (i j : ℕ) → byte (at + i + j) ≡ byte (at + (i + j))
  further i j = ap byte (add_assoc at i j)

  -- a byte and three bytes
  pub high_byte : be 4 s at / 0x1000000 ≡ be 1 s at
  unfolding be
  high_byte = omega (arith, h at, h (at + 1), h (at + 2), h (at + 3))

  pub low_three : be 4 s at % 0x1000000 ≡ be 3 s (at + 1)
  unfolding be
  low_three = omega (arith, h at, h (at + 1), h (at + 2), h (at + 3), further 1 0, further 1 1, further 1 2)

  -- three bytes and a byte
  pub high_three : be 4 s at / 256 ≡ be 3 s at
  unfolding be
  high_three = omega (arith, h at, h (at + 1), h (at + 2), h (at + 3))

-- ---- the end of a word

module _ (s : List ℕ) (h : Bytes s) (n : ℕ) (size : length s ≡ n + 4) where
  -- the bytes behind all but the last p: those that are there, and those that are absent
  there : (p j i : ℕ) → n + 4 - p + j ≡ n + i → get_or (drop (n + 4 - p) s) j 0 ≡ get_or s (n + i) 0
  there p j i e = get_or-drop (n + 4 - p) s j 0 ∙ ap (λ (k : ℕ). get_or s k 0) e

  absent : (p j : ℕ) → p ≤ 4 → p ≤ j → get_or (drop (n + 4 - p) s) j 0 ≡ 0
  absent p j few past = get_or-drop (n + 4 - p) s j 0 ∙ get_or-eq_default s 0 (omega arith)

  -- the last p of the four bytes from n on, as a number of three bytes: the word shifted by whole bytes
  pub end_of_word : (p : ℕ) → p ≤ 3 → be 4 s n * 2 ^ (24 - 8 * p) % 0x100000000 % 0x1000000 ≡ be 3 (drop (n + 4 - p) s) 0
  unfolding be
  end_of_word zero l = omega (arith, h (n + 0), h (n + 1), h (n + 2), h (n + 3), absent 0 0 (omega arith) (omega arith), absent 0 1 (omega arith) (omega arith), absent 0 2 (omega arith) (omega arith))
  end_of_word (suc zero) l =
      omega (arith, h (n + 0), h (n + 1), h (n + 2), h (n + 3), there 1 0 3 (omega arith), absent 1 1 (omega arith) (omega arith), absent 1 2 (omega arith) (omega arith))
  end_of_word (suc (suc zero)) l =
      omega (arith, h (n + 0), h (n + 1), h (n + 2), h (n + 3), there 2 0 2 (omega arith), there 2 1 3 (omega arith), absent 2 2 (omega arith) (omega arith))
  end_of_word (suc (suc (suc zero))) l =
      omega (arith, h (n + 0), h (n + 1), h (n + 2), h (n + 3), there 3 0 1 (omega arith), there 3 1 2 (omega arith), there 3 2 3 (omega arith))
  end_of_word (suc (suc (suc (suc p)))) l = absurd (omega arith)
