-- Parts of a list, as code lends them, and bytes over the front of others.
use Prim.Native.Nat.{ℕ, ◌+◌, ◌-◌, ◌≤◌, ◌<◌}
use mathlib.Core.Path.{◌≡◌, refl, sym, ap, ◌∙◌}
use mathlib.Core.List.{List, [], ◌++◌, append_cancel_left, append_assoc, append-nil}
use native.Mathlib.Nat.{zero-add}
use native.Mathlib.Omega.{arith}
use lib.ListN.{length, take, drop, length-append, length-take, length-drop}
use lib.Seq.{sets, sets-eq, take_all, take-take, take-add, take-length, drop-length, take_at, drop_at, drop-drop, length-take-le}
use borrow.Rule.Slice.PartMut.{put_mid}
use borrow.Author.Tests.{le-leb, lt-leb}
use Rattle.octets.specs.Octets.{over, put_all}

-- what is left of a list, as `&s[at..]` lends it
pub rest : (s : List ℕ) (at : ℕ) → at ≤ length s → take (length s - at) (drop at s) ≡ drop at s
rest s at h = rw (← length-drop at s, take-length)

-- d elements after h, within the first k
pub part_of_front : (h d k : ℕ) (s : List ℕ) → h + d ≤ k → take d (drop h (take k s)) ≡ take d (drop h s)
part_of_front h d k s le =
    append_cancel_left (take h s) (take d (drop h (take k s))) (take d (drop h s))
    (cc (take-take h k s (omega arith), take-take (h + d) k s le, take-add h d (take k s), take-add h d s))

-- what is behind the first l of n elements, as `&s[l..n]` lends it
pub behind : (l n : ℕ) (s : List ℕ) → l ≤ n → n ≤ length s → drop l (take n s) ≡ take (n - l) (drop l s)
behind l n s h room =
    sym (take_all (n - l) (drop l (take n s)) (omega (arith, length-drop l (take n s), length-take n s)))
    ∙ part_of_front l (n - l) n s (omega arith)

-- ---- bytes over the front of others

pub over_length : (new old : List ℕ) → length new ≤ length old → length (over new old) ≡ length old
unfolding over
over_length new old h = simp (length-append, length-drop) (omega arith)

pub over_none : (old : List ℕ) → over [] old ≡ old
unfolding over
over_none old = refl

-- a over the front, and then b over what is after it
pub over_more : (a b old : List ℕ) (n : ℕ) → length a ≡ n → take n (over a old) ++ over b (drop n (over a old)) ≡ over (a ++ b) old
unfolding over
over_more a b old n e =
    rw (take_at a _ n e, drop_at a _ n e, drop-drop, length-append, append_assoc)

-- b after the first n bytes, and then a over those n
pub over_before : (a b old : List ℕ) (n : ℕ) → length a ≡ n → n ≤ length old → over a (take n old ++ over b (drop n old)) ≡ over (a ++ b) old
unfolding over
over_before a b old n e h =
    rw (e, drop_at _ _ n (length-take-le n old h), drop-drop, length-append, e, append_assoc)

-- n bytes in front, and b over what is after the first n
pub over_behind : (a b old : List ℕ) (n : ℕ) → length a ≡ n → a ++ over b (drop n old) ≡ over (a ++ b) old
unfolding over
over_behind a b old n e = rw (drop-drop, length-append, e, append_assoc)

-- ---- where there is room for all, and where not

module _ (new old : List ℕ) where
  pub all_put : length new ≤ length old → put_all new old ≡ over new old
  unfolding put_all
  all_put h = rw (le-leb (length new) (length old) h)

  pub none_put : length old < length new → old ≡ put_all new old
  unfolding put_all
  none_put h = rw (lt-leb (length new) (length old) h)

  -- put one by one, from the front on
  pub bytes_put : length new ≤ length old → sets old 0 new ≡ over new old
  unfolding over
  bytes_put h = rw (sets-eq new old 0 (omega arith), zero-add)

  pub all_bytes_put : length new ≤ length old → sets old 0 new ≡ put_all new old
  all_bytes_put h = bytes_put h ∙ sym (all_put h)

-- ---- copies and parts

-- what a copy leaves
pub copied : (src old : List ℕ) → take (length src) src ++ drop (length src) old ≡ over src old
unfolding over
copied src old = rw (take-length src)

-- a part from a place on that was lent and came back
pub lent : (n : ℕ) (s back : List ℕ) → put_mid n (length s - n) s back ≡ take n s ++ back
lent n s back =
    rw (← length-drop n s, drop-length, append-nil)

-- a part that was lent and came back with other bytes over all of it
pub put_part : (new s : List ℕ) (at : ℕ) → at + length new ≤ length s
    → put_mid at (length new) s (over new (take (length new) (drop at s))) ≡ sets s at new
unfolding over
put_part new s at h =
    let k = length new in
    let part = take k (drop at s) in
    let none : drop k part ≡ [] =
    sym (ap (λ (n : ℕ). drop n part) (length-take-le k (drop at s) (omega (arith, length-drop at s)))) ∙ drop-length part in
    rw (sets-eq new s at h, none, append-nil, drop-drop, append_assoc)

-- the same as bytes over what is behind the place
pub part_put : (new s : List ℕ) (at : ℕ) → at + length new ≤ length s
    → put_mid at (length new) s (over new (take (length new) (drop at s))) ≡ take at s ++ over new (drop at s)
unfolding over
part_put new s at h = put_part new s at h ∙ rw (sets-eq new s at h, drop-drop, append_assoc)
