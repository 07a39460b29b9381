-- A store whose front was written and whose rest was cleared holds what was written, and zero to its last byte.
use Prim.Native.Nat.{ℕ, ◌-◌, ◌≤◌}
use mathlib.Core.Path.{◌≡◌, sym, ap, ◌∙◌}
use mathlib.Core.List.{List, ◌++◌}
use native.Mathlib.Omega.{arith}
use lib.ListN.{length, take, drop, replicate, length-drop, length-take}
use lib.Seq.{take_at}
use borrow.Rule.Slice.PartMut.{put_mid}
use Rattle.octets.specs.Octets.{over}
use Rattle.octets.proofs.Lists.{over_length, lent}

-- n bytes were written over the front of the store, and what is after them was lent and came back as zeros
pub cleared : (new before written back : List ℕ) (n : ℕ) → n ≡ length new → length new ≤ length before → written ≡ over new before
    → back ≡ replicate (length (take (length written - n) (drop n written))) 0
    → put_mid n (length written - n) written back ≡ new ++ replicate (length before - length new) 0
unfolding over
cleared new before written back n size fits is zeros =
    let l : length written ≡ length before = ap length is ∙ over_length new before fits in
    let k : length (take (length written - n) (drop n written)) ≡ length before - length new = simp (length-take, length-drop) (omega arith) in
    rw (lent n written back, zeros, k, is, take_at new _ n (sym size))
