-- The law of the sum: in a table that keeps the rules only a group has members, and a group has no padding. So what the
-- records write themselves is the size of their forest.
use Prim.Native.Nat.{ℕ, ◌+◌}
use mathlib.Core.Path.{◌≡◌, refl}
use mathlib.Core.Logic.{inl, inr}
use mathlib.Core.List.{List, [], ◌∷◌}
use native.Mathlib.Omega.{arith}
use lib.Dec.{leb}
use Rattle.refusal.proofs.Tests.{decide}
use Rattle.record.specs.Record.{Record}
use Rattle.record.specs.Forest.{Forest, none, node, leading, following, forest}
use Rattle.rfc6733.specs.Writer.{is_group, stated_data, allowed_after}
use Rattle.round_trip.specs.Forests.{size}
use Rattle.round_trip.specs.Rules.{Valid}
use Rattle.round_trip.proofs.Rules.{keeps_good, after_leaf}
use Rattle.round_trip.proofs.Turns.{none_deeper}
use Rattle.rules.specs.Checking.{own_size, own_sizes}

size_split : (d : ℕ) (f : Forest) → size (leading d f) + size (following d f) ≡ size f
size_split d none = refl
size_split d (node r i t) =
    elim (decide (leb d r.depth)) [ inl e ↦ rw e (omega (arith, size_split d t)) | inr e ↦ rw e (omega arith) ]

pub sum_is : (allowed n : ℕ) (rs : List Record) → Valid allowed n rs → own_sizes rs ≡ size (forest rs)
unfolding own_size stated_data
sum_is allowed n [] v = refl
sum_is allowed n (r ∷ rs) v =
    let g = keeps_good allowed n r v.0 in
    let others = sum_is (allowed_after r) n rs v.1 in
    let parts = size_split (r.depth + 1) (forest rs) in
    elim (decide (is_group r)) [
      | inl e ↦ rw e (omega (arith, g.group e))
      | inr e ↦
          let alone = none_deeper r.depth n rs (rw (after_leaf r e) at v.1) in
          let none_inside : size (leading (r.depth + 1) (forest rs)) ≡ 0 = rw alone in
          rw e (omega (arith, (g.leaf e).long))
    ]
