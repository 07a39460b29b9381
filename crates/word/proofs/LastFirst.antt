-- The bytes of a list put into a store one by one, the last first. No byte that is put changes the length of the store, and all of
-- them are the list turned round, put as one.
use Prim.Native.Nat.{ℕ, zero, suc, ◌+◌, ◌-◌, ◌≤◌, ◌<◌}
use mathlib.Core.Path.{◌≡◌, ◌∙◌}
use mathlib.Core.List.{List, reverse}
use native.Mathlib.Omega.{arith}
use native.Mathlib.Numerals.{towards_suc}
use lib.ListN.{length, get_or, set, take, drop, length-set, length-drop}
use lib.Seq.{sets, length-take-le}
use borrow.Rule.Slice.PartMut.{put_mid}
use Rattle.octets.specs.Octets.{octets, put_all}
use Rattle.octets.proofs.Lists.{all_put, none_put, put_part}
use Rattle.octets.proofs.Numbers.{length_octets}

module _ (store : List ℕ) (at : ℕ) (b : List ℕ) where
  -- the store with the byte at `last` and the n before it
  abbrev pub stored : ℕ → ℕ → List ℕ
  stored last zero = set store at (get_or b last 0)
  stored last (suc n) = set (stored last n) (at + suc n) (get_or b (last - suc n) 0)

  pub same_length : (last n : ℕ) → length (stored last n) ≡ length store
  same_length last zero = length-set store _ _
  same_length last (suc n) = length-set (stored last n) _ _ ∙ same_length last n

  pub four_stored : (v : ℕ) → b ≡ reverse (octets 4 v) → stored 3 3 ≡ sets store at (octets 4 v)
  unfolding octets
  four_stored v e = rw e (simp towards_suc)

  pub eight_stored : (v : ℕ) → b ≡ reverse (octets 8 v) → stored 7 7 ≡ sets store at (octets 8 v)
  unfolding octets
  eight_stored v e = rw e (simp towards_suc)

-- a number over the front where there is no room for it; where there is, promises/proofs/Words has `number_put`
module _ (n v : ℕ) (s : List ℕ) where
  pub no_number_put : length s < n → s ≡ put_all (octets n v) s
  no_number_put h = none_put (octets n v) s (omega (arith, length_octets n v))

-- and over n bytes that were lent as a part
pub number_put_at : (n v : ℕ) (s : List ℕ) (at k : ℕ) (part : List ℕ) → k ≡ n → at + n ≤ length s
    → part ≡ put_all (octets n v) (take k (drop at s)) → put_mid at k s part ≡ sets s at (octets n v)
number_put_at n v s at k part e h came_back =
    let width = length_octets n v in
    let size = length-take-le n (drop at s) (omega (arith, length-drop at s)) in
    let put = put_part (octets n v) s at (omega arith) in
    rw (came_back, e, all_put (octets n v) (take n (drop at s)) (omega arith)) (rw width at put)
