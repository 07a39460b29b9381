-- Bytes at a place replaced by as many others. What lies before the place and what lies behind them stays; a part that holds them has them replaced
-- in it; and a number that lies before them is read as it was.
use Prim.Native.Nat.{ℕ, ◌+◌, ◌-◌, ◌≤◌}
use mathlib.Core.Path.{◌≡◌, refl, sym, ap, ap₂, ◌∙◌}
use mathlib.Core.List.{List, [], ◌∷◌, ◌++◌, append_assoc}
use native.Mathlib.Omega.{arith}
use lib.ListN.{length, take, drop, length-append, length-take, length-drop, take-append-drop}
use lib.Seq.{sets, sets-eq, length-sets, take-append-le, drop-append-le, take-append-add, drop-append-add, take_at, drop_at, drop-drop, take-take, length-take-le}
use Rattle.octets.specs.Octets.{be, total, unpack}
use Rattle.octets.proofs.Numbers.{be_take}

module _ (new : List ℕ) where
  -- in the first of two parts, and in the second
  pub sets_front : (s x : List ℕ) (at : ℕ) → at + length new ≤ length s → sets (s ++ x) at new ≡ sets s at new ++ x
  sets_front s x at h =
      rw (
        sets-eq new (s ++ x) at (omega (arith, length-append s x)),
        sets-eq new s at h,
        take-append-le at s x (omega arith),
        drop-append-le (at + length new) s x h,
      )
      (simp append_assoc)

  pub sets_behind : (s x : List ℕ) (at : ℕ) → at + length new ≤ length x → sets (s ++ x) (length s + at) new ≡ s ++ sets x at new
  sets_behind s x at h =
      let e : length s + at + length new ≡ length s + (at + length new) = omega arith in
      rw (
        sets-eq new (s ++ x) (length s + at) (omega (arith, length-append s x)),
        sets-eq new x at h,
        take-append-add s x at,
        e,
        drop-append-add s x (at + length new),
      )
      (simp append_assoc)

  -- what lies before the place, and what lies behind the bytes
  pub take_sets : (s : List ℕ) (at k : ℕ) → k ≤ at → at + length new ≤ length s → take k (sets s at new) ≡ take k s
  take_sets s at k le h =
      rw (
        sets-eq new s at h,
        append_assoc,
        take-append-le k (take at s) (new ++ drop (at + length new) s) (omega (arith, length-take at s)),
        take-take k at s le,
      )

  pub drop_sets : (s : List ℕ) (at k : ℕ) → at + length new ≤ k → k ≤ length s → drop k (sets s at new) ≡ drop k s
  drop_sets s at k le h =
      let front = take at s ++ new in
      let l : length front ≡ at + length new = length-append (take at s) new ∙ omega (arith, length-take at s) in
      let j = k - (at + length new) in
      let e : k ≡ length front + j = omega arith in
      let f : at + length new + j ≡ k = omega arith in
      rw (sets-eq new s at (omega arith), e, drop-append-add front (drop (at + length new) s) j, drop-drop, l, f)

  -- a number before the place
  pub be_sets : (n : ℕ) (s : List ℕ) (at i : ℕ) → i + n ≤ at → at + length new ≤ length s → be n (sets s at new) i ≡ be n s i
  be_sets n s at i le h =
      sym (be_take n (sets s at new) at i le) ∙ ap (λ (x : List ℕ). be n x i) (take_sets s at at (omega arith) h) ∙ be_take n s at i le

  -- fields before it
  pub unpack_sets : (ws : List ℕ) (s : List ℕ) (at i : ℕ) → i + total ws ≤ at → at + length new ≤ length s
      → unpack ws (sets s at new) i ≡ unpack ws s i
  unpack_sets [] s at i le room = refl
  unpack_sets (w ∷ ws) s at i le room =
      ap₂ ◌∷◌ (be_sets w s at i (omega arith) room) (unpack_sets ws s at (i + w) (omega arith) room)

  -- in a part of n bytes that starts at h
  pub part_sets : (s : List ℕ) (h n at : ℕ) → at + length new ≤ n → h + n ≤ length s
      → take n (drop h (sets s (h + at) new)) ≡ sets (take n (drop h s)) at new
  part_sets s h n at le room =
      let a = take h s in
      let p = take n (drop h s) in
      let q = drop n (drop h s) in
      let la : length a ≡ h = length-take-le h s (omega arith) in
      let lp : length p ≡ n = length-take-le n (drop h s) (omega (arith, length-drop h s)) in
      let whole : s ≡ a ++ (p ++ q) = sym (ap (λ (x : List ℕ). a ++ x) (take-append-drop n (drop h s)) ∙ take-append-drop h s) in
      let inner : sets (p ++ q) at new ≡ sets p at new ++ q = sets_front p q at (omega arith) in
      let is : sets s (h + at) new ≡ a ++ (sets p at new ++ q) =
      ap (λ (x : List ℕ). sets x (h + at) new) whole
      ∙ ap (λ (k : ℕ). sets (a ++ (p ++ q)) (k + at) new) (sym la)
      ∙ sets_behind a (p ++ q) at (omega (arith, length-append p q))
      ∙ ap (λ (x : List ℕ). a ++ x) inner
      in
      rw (is, drop_at a (sets p at new ++ q) h la) (take_at (sets p at new) q n (length-sets p at new ∙ lp))
