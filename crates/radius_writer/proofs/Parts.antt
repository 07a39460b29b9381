-- What is copied to the front of the output in two parts, one behind the other, is both over the front of it.
use Prim.Native.Nat.{ℕ, ◌-◌, ◌%◌, ◌≤◌}
use mathlib.Core.Path.{◌≡◌}
use mathlib.Core.List.{List, [], ◌∷◌, ◌++◌, append_assoc}
use native.Mathlib.Omega.{arith}
use lib.ListN.{length, take, drop, get_or, length-append}
use lib.Seq.{take_at, drop_at, drop-drop}
use borrow.Rule.Slice.PartMut.{put_mid}
use Rattle.octets.specs.Octets.{octets, pack, fields_of, over}
use Rattle.octets.proofs.Lists.{rest, lent, copied}
use Rattle.rfc2865.specs.Attribute.{Head, head_layout}
use Rattle.rfc2865.specs.Packet.{Front, front_layout}

pub two_put : (a b l : List ℕ) (n m : ℕ) → length a ≡ n → length b ≡ m → put_mid n m (a ++ drop n l) b ≡ over (a ++ b) l
unfolding over
two_put a b l n m an bm =
    rw (take_at a (drop n l) n an, drop_at a (drop n l) n an, drop-drop m n l, length-append a b, an, bm, append_assoc)

-- a copy over just as many bytes of a list, behind the first n, leaves what one into all the bytes behind them does
pub part_copied : (n m : ℕ) (p src : List ℕ) → length src ≡ m → n ≤ length p
    → put_mid n m p src
    ≡ put_mid n (length p - n) p (take (length src) src ++ drop (length src) (take (length p - n) (drop n p)))
unfolding over
part_copied n m p src e h =
    rw (lent n p (take (length src) src ++ drop (length src) (take (length p - n) (drop n p))), copied, rest p n h, ← e)

-- the type and the length of an attribute, which are bytes
pub head_bytes : (h : Head) → h.code ≤ 255 → h.length ≤ 255 → pack (fields_of head_layout h) ≡ h.code ∷ h.length ∷ []
unfolding octets
head_bytes h code most =
    let c : h.code % 256 ≡ h.code = omega arith in
    let n : h.length % 256 ≡ h.length = omega arith in
    rw (c, n)

-- a packet's code, identifier and length
pub front_bytes : (f : Front) (b : List ℕ) → f.code ≤ 255 → f.identifier ≤ 255 → b ≡ octets 2 f.length
    → pack (fields_of front_layout f) ≡ f.code ∷ f.identifier ∷ get_or b 0 0 ∷ get_or b 1 0 ∷ []
unfolding octets
front_bytes f b code identifier is =
    let c : f.code % 256 ≡ f.code = omega arith in
    let i : f.identifier % 256 ≡ f.identifier = omega arith in
    rw (is, c, i)
