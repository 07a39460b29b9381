-- Padding is p bytes at most, held as a number of p + q bytes whose last q are 0: so the number is that of the p bytes, times
-- 256 to the q, and neither way is anything lost.
use Prim.Native.Nat.{ℕ, zero, suc, ◌+◌, ◌-◌, ◌*◌, ◌/◌, ◌%◌, ◌^◌, ◌≤◌, ◌<◌}
use mathlib.Core.Path.{◌≡◌}
use mathlib.Core.List.{List}
use native.Mathlib.Nat.{add-zero, add-suc, mul-one, pow-suc, one-le-pow, zero-lt-suc, mod-eq_of_lt, mul-div_cancel, mul-mod_left}
use native.Mathlib.Omega.{arith}
use lib.Arith.{mod-mul}
use lib.Pow.{pow-add}
use lib.ListN.{length, take, get_or, get_or-eq_default}
use lib.Seq.{take_at, take-length}
use Rattle.octets.specs.Octets.{be, octets, Bytes}
use Rattle.octets.proofs.Numbers.{length_octets, read_written, written_read, written_parts}

some_power : (q : ℕ) → 0 < 256 ^ q
some_power q = one-le-pow q 256 (zero-lt-suc 255)

-- the bytes that are absent count as 0
be_short : (p q : ℕ) (s : List ℕ) → length s ≤ p → be (p + q) s 0 ≡ be p s 0 * 256 ^ q
unfolding be
be_short p zero s h = rw (add-zero p, mul-one)
be_short p (suc q) s h =
    let absent : get_or s (0 + (p + q)) 0 ≡ 0 = get_or-eq_default s 0 {n = 0 + (p + q)} (omega arith) in
    rw (add-suc p q, be_short p q s h, absent, pow-suc) (omega arith)

front_part : (p q v : ℕ) → take p (octets (p + q) v) ≡ octets p (v / 256 ^ q)
front_part p q v = rw (written_parts p q v) (take_at (octets p (v / 256 ^ q)) (octets q v) p (length_octets p (v / 256 ^ q)))

-- ---- written and read

padding_read : (p q v : ℕ) → v < 256 ^ (p + q) → v % 256 ^ q ≡ 0 → be (p + q) (take p (octets (p + q) v)) 0 ≡ v
padding_read p q v small low =
    let w = v / 256 ^ q in
    let l = length_octets p w in
    let all : v % (256 ^ p * 256 ^ q) ≡ v = rw (← pow-add 256 p q) (mod-eq_of_lt small) in
    rw (front_part p q v, be_short p q (octets p w) (omega arith), read_written p w) (omega (arith, mod-mul v (some_power p) (some_power q)))

-- ---- read and written

padding_written : (q : ℕ) (s : List ℕ) → Bytes s → take (length s) (octets (length s + q) (be (length s + q) s 0)) ≡ s
padding_written q s b =
    let p = length s in
    rw (front_part p q (be (p + q) s 0), be_short p q s (omega arith), mul-div_cancel (be p s 0) (some_power q), written_read p s 0 (omega arith) b)
    (take-length s)

padding_unused : (q : ℕ) (s : List ℕ) → be (length s + q) s 0 % 256 ^ q ≡ 0
padding_unused q s = rw (be_short (length s) q s (omega arith)) (mul-mod_left (be (length s) s 0) (256 ^ q))

-- ---- in three bytes

three : (p : ℕ) → p ≤ 3 → p + (3 - p) ≡ 3
three p h = omega arith

pub pads_read : (p v : ℕ) → p ≤ 3 → v < 256 ^ 3 → v % 256 ^ (3 - p) ≡ 0 → be 3 (take p (octets 3 v)) 0 ≡ v
pads_read p v h small low =
    rw (three p h) at (padding_read p (3 - p) v (rw (three p h) small) low)

pub pads_written : (p : ℕ) (s : List ℕ) → length s ≡ p → p ≤ 3 → Bytes s → take p (octets 3 (be 3 s 0)) ≡ s
pads_written p s e h b = rw (e, three p h) at (padding_written (3 - p) s b)

pub pads_unused : (p : ℕ) (s : List ℕ) → length s ≡ p → p ≤ 3 → be 3 s 0 % 256 ^ (3 - p) ≡ 0
pads_unused p s e h = rw (e, three p h) at (padding_unused (3 - p) s)
