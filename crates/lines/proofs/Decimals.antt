-- A number in decimal, as the definition has it and as the digits of the kit: both take the last digit first, and the kit's count is the
-- fewest that hold the number. A number below a power of ten has no more digits than that power has zeros.
use Prim.Native.Nat.{ℕ, zero, suc, ◌-◌, ◌/◌, ◌%◌, ◌^◌, ◌≤◌, ◌<◌}
use mathlib.Core.Path.{◌≡◌, sym}
use mathlib.Core.Bool.{Bool, true, false, cond}
use mathlib.Core.List.{List, []}
use native.Mathlib.Nat.{pow-suc, one-le-pow, zero-lt-suc}
use native.Mathlib.Omega.{arith}
use lib.ListN.{length, length-append}
use lib.Dec.{ltb}
use borrow.Author.Tests.{lt-ltb, le-ltb}
use Rattle.io.specs.Digits.{last_digits, IsDigitCount}
use Rattle.rfc6733.specs.Dump.{decimal_in, decimal}

decimal_digits : (m k n : ℕ) → n < 10 ^ suc m → n < 10 ^ suc k → (1 < suc k → 10 ^ k ≤ n)
    → decimal_in (suc m) n ≡ last_digits 10 (suc k) n
decimal_digits m zero n most small least = rw (lt-ltb n 10 (omega arith), lt-ltb (n % 10) 10 (omega arith))
decimal_digits zero (suc k) n most small least =
    let p = one-le-pow k 10 (zero-lt-suc 9) in
    let more = rw pow-suc at (least (omega arith)) in
    absurd (omega arith)
decimal_digits (suc m) (suc k) n most small least =
    let p = one-le-pow k 10 (zero-lt-suc 9) in
    let more = rw pow-suc at (least (omega arith)) in
    let fewer = rw (pow-suc 10 (suc m), pow-suc 10 m) at most in
    let less = rw (pow-suc 10 (suc k), pow-suc 10 k) at small in
    let before = decimal_digits m k (n / 10) (rw pow-suc (omega arith)) (rw pow-suc (omega arith)) (λ l. omega arith) in
    rw (le-ltb n 10 (omega arith), before, lt-ltb (n % 10) 10 (omega arith))

pub decimal_is : (k n : ℕ) → n < 10 ^ 20 → IsDigitCount 10 1 n k → last_digits 10 k n ≡ decimal n
unfolding decimal
decimal_is zero n h f = absurd (omega (arith, f.0))
decimal_is (suc k) n h f =
    let e : suc k - 1 ≡ k = omega arith in
    sym (decimal_digits 19 k n h f.1 (λ l. rw e at (f.2 l)))

short : (b : Bool) (ds : List ℕ) → length (cond b [] ds) ≤ length ds
short true ds = omega arith
short false ds = omega arith

-- one digit after k others
one_more : (m n k : ℕ) → length (decimal_in m (n / 10)) ≤ k → length (decimal_in (suc m) n) ≤ suc k
one_more m n k others = simp length-append (omega (arith, short (ltb n 10) (decimal_in m (n / 10))))

decimal_in_short : (m j n : ℕ) → n < 10 ^ suc j → length (decimal_in m n) ≤ suc j
decimal_in_short zero j n h = omega arith
decimal_in_short (suc m) zero n h = rw (lt-ltb n 10 (omega arith)) (omega arith)
decimal_in_short (suc m) (suc j) n h =
    let less = rw (pow-suc 10 (suc j), pow-suc 10 j) at h in
    one_more m n (suc j) (decimal_in_short m j (n / 10) (rw pow-suc (omega arith)))

pub decimal_short : (j n : ℕ) → n < 10 ^ suc j → length (decimal n) ≤ suc j
unfolding decimal
decimal_short = decimal_in_short 20

decimal_in_most : (m n : ℕ) → length (decimal_in m n) ≤ m
decimal_in_most zero n = omega arith
decimal_in_most (suc m) n = one_more m n m (decimal_in_most m (n / 10))

pub decimal_most : (n : ℕ) → length (decimal n) ≤ 20
unfolding decimal
decimal_most = decimal_in_most 20
