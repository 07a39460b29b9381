-- A part of a store that is lent, and comes back with bytes put over all of it: they stand in the store at the part's place.
use Rattle.std.proofs.Common.{◌≡◌, ℕ, ◌+◌, ◌%◌, ◌≤◌, ◌<◌, List, ◌++◌, length, take, drop, length-append, length-drop, arith}
use Rattle.std.proofs.Math.ListN.{set, length-set}
use Rattle.std.proofs.Math.Seq.{sets, length-sets, length-take-le}
use borrow.Rule.Slice.PartMut.{put_mid}
use Rattle.octets.specs.Octets.{octets, put_all}
use Rattle.octets.proofs.Lists.{all_put, put_part}
use Rattle.octets.proofs.Numbers.{length_octets}

-- bytes stand at a place of a store, and all else is as before
pub record Replaced (at : ℕ) (bs before after : List ℕ) : Type 0 where
  pub is : after ≡ sets before at bs
  pub same_length : length after ≡ length before

part_replaced : (bs s : List ℕ) (at k : ℕ) (part : List ℕ) → part ≡ put_all bs (take k (drop at s)) → k ≡ length bs
    → at + k ≤ length s → Replaced at bs s (put_mid at k s part)
part_replaced bs s at k part came_back size room =
    let full = length-take-le k (drop at s) (omega (arith, length-drop at s)) in
    let put = all_put bs (take k (drop at s)) (omega arith) in
    let e : put_mid at k s part ≡ sets s at bs = rw (came_back, put, size) (put_part bs s at (omega arith)) in
    record { is = e; same_length = rw e (length-sets s at bs) }

module _ (s : List ℕ) (at : ℕ) (part : List ℕ) where
  -- a number of n bytes, and one of m bytes with one of n behind it
  pub number_replaced : (n v : ℕ) → part ≡ put_all (octets n v) (take n (drop at s)) → at + n ≤ length s
      → Replaced at (octets n v) s (put_mid at n s part)
  number_replaced n v e room = part_replaced (octets n v) s at n part e (omega (arith, length_octets n v)) room

  pub two_replaced : (m n v w : ℕ) → part ≡ put_all (octets m v ++ octets n w) (take (m + n) (drop at s)) → at + (m + n) ≤ length s
      → Replaced at (octets m v ++ octets n w) s (put_mid at (m + n) s part)
  two_replaced m n v w e room =
      let size = length-append (octets m v) (octets n w) in
      part_replaced (octets m v ++ octets n w) s at (m + n) part e (omega (arith, size, length_octets m v, length_octets n w)) room

-- one byte
pub byte_replaced : (b : ℕ) (s : List ℕ) (at : ℕ) → b < 256 → Replaced at (octets 1 b) s (set s at b)
unfolding octets
byte_replaced b s at small =
    let e : b % 256 ≡ b = omega arith in
    record { is = rw e; same_length = length-set s at b }
