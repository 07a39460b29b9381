-- Two functions of numbers are equal where they agree at each number of a list and off it.
use Prim.Native.Nat.{ℕ}
use mathlib.Core.Path.{◌≡◌, refl}
use mathlib.Core.Bool.{Bool, true, false}
use mathlib.Core.List.{List, [], ◌∷◌, map}
use lib.Dec.{eqb}
use borrow.Author.Tests.{eqb-true}
use Rattle.rfc6733.specs.Value.{one_of}

-- two functions that agree at each number of a list, and off it, are equal
pub same_by_list : {A : Type 0} (f g : ℕ → A) (cs : List ℕ) → map f cs ≡ map g cs
    → (k : ℕ) → (one_of k cs ≡ false → f k ≡ g k) → f k ≡ g k
same_by_list f g [] e k off = off refl
same_by_list f g (c ∷ cs) e k off = by (eqb k c) refl (λ h. same_by_list f g cs (cc) k h)
  where
    by : (b : Bool) → eqb k c ≡ b → ((one_of k cs ≡ false → f k ≡ g k) → f k ≡ g k) → f k ≡ g k
    by true t later = let same = eqb-true k c t in cc
    by false t later = later (λ h. off (rw t h))
