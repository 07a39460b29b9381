-- Merging fragments has the empty run's as its unit, on both sides, and may be grouped either way.
use Prim.Native.Nat.{ℕ, ◌+◌}
use mathlib.Core.Path.{◌≡◌, refl, ap₂}
use mathlib.Core.Logic.{inl, inr}
use mathlib.Core.List.{List, [], ◌∷◌, append_assoc, append-nil, map, map-append}
use native.Mathlib.Nat.{add_assoc, add-zero, zero-add}
use lib.Dec.{eqb}
use Rattle.refusal.proofs.Tests.{decide}
use Rattle.flags.proofs.Joins.{join_assoc, zero_join, join_zero}
use Rattle.record.specs.Record.{Record}
use Rattle.rfc6733.specs.Joining.{Fragment, shifted, merged, nothing}

-- a record that is not moved, and one that is moved twice
not_shifted : (r : Record) → shifted 0 0 r ≡ r
unfolding shifted
not_shifted r = elim (decide (eqb r.depth 1)) [ inl e ↦ simp (e, zero-add) | inr e ↦ simp (e, zero-add) ]

shifted_twice : (a m b n : ℕ) (r : Record) → shifted a m (shifted b n r) ≡ shifted (a + b) (m + n) r
unfolding shifted
shifted_twice a m b n r =
    elim (decide (eqb r.depth 1)) [
      | inl e ↦ simp (e, add_assoc)
      | inr e ↦ simp (e, add_assoc)
    ]

all_not_shifted : (rs : List Record) → map (shifted 0 0) rs ≡ rs
all_not_shifted [] = refl
all_not_shifted (r ∷ rs) = ap₂ ◌∷◌ (not_shifted r) (all_not_shifted rs)

all_shifted_twice : (a m b n : ℕ) (rs : List Record)
    → map (shifted a m) (map (shifted b n) rs) ≡ map (shifted (a + b) (m + n)) rs
all_shifted_twice a m b n [] = refl
all_shifted_twice a m b n (r ∷ rs) = ap₂ ◌∷◌ (shifted_twice a m b n r) (all_shifted_twice a m b n rs)

pub nothing_before : (y : Fragment) → merged nothing y ≡ y
nothing_before y = simp (zero_join, zero-add, all_not_shifted)

pub nothing_after : (x : Fragment) → merged x nothing ≡ x
nothing_after x = simp (join_zero, add-zero, append-nil)

pub grouped_either_way : (x y z : Fragment) → merged (merged x y) z ≡ merged x (merged y z)
grouped_either_way x y z = simp (join_assoc, add_assoc, map-append, all_shifted_twice, append_assoc)
