-- In a table that keeps the depth rules a parent is a group. A depth is allowed only where groups lead down to it: after a group one
-- more is, and what is allowed after any record was allowed before it. So for each depth that is allowed, the last record one depth less is
-- a group, and what came since is in it.
use Prim.Native.Nat.{ℕ, ◌+◌, ◌-◌, ◌≤◌}
use mathlib.Core.Path.{◌≡◌, refl, sym, ap, subst, ◌∙◌}
use mathlib.Core.Bool.{true}
use mathlib.Core.Logic.{inl, inr}
use mathlib.Core.List.{List, [], ◌∷◌}
use native.Mathlib.Omega.{arith}
use lib.ListN.{length, get_or, drop}
use lib.Dec.{eqb}
use borrow.Author.Tests.{eq-eqb, ne_eqb, eqb-true, eqb-false}
use Rattle.refusal.proofs.Tests.{decide}
use Rattle.record.specs.Record.{Record}
use Rattle.record.specs.Parents.{last_of, parent_at, depths}
use Rattle.rfc6733.specs.Writer.{is_group, allowed_after}
use Rattle.round_trip.specs.Rules.{Valid}
use Rattle.round_trip.specs.Members.{GroupOf, InGroups}
use Rattle.round_trip.proofs.Rules.{keeps_good, after_group, after_leaf, Told}

depths_length : (rs : List Record) → length (depths rs) ≡ length rs
depths_length [] = refl
depths_length (r ∷ rs) = omega (arith, depths_length rs)

-- for each depth that is allowed, the last record one depth less is a group
abbrev Open : ℕ → List Record → Type 0
Open allowed earlier = (d : ℕ) → 2 ≤ d → d ≤ allowed → GroupOf earlier d (last_of (d - 1) (depths earlier))

-- it stays so for what is no deeper than the next record
still_open : (r : Record) (earlier : List Record) (d : ℕ) → 1 ≤ d → d ≤ r.depth → GroupOf earlier d (last_of (d - 1) (depths earlier))
    → GroupOf (r ∷ earlier) d (last_of (d - 1) (depths (r ∷ earlier)))
still_open r earlier d some deep g =
    rw (ne_eqb r.depth (d - 1) (λ e. omega arith))
    (record {
      between = r ∷ g.between;
      it = g.it;
      before = g.before;
      table_is = ap (λ (rs : List Record). r ∷ rs) g.table_is;
      index_is = g.index_is;
      kind_8 = g.kind_8;
      one_less = g.one_less;
      its_members = (deep, g.its_members);
    })

-- a group is that of what stands one deeper
opened : (r : Record) (earlier : List Record) → is_group r ≡ true → GroupOf (r ∷ earlier) (r.depth + 1) (last_of (r.depth + 1 - 1) (depths (r ∷ earlier)))
opened r earlier e =
    let own : r.depth + 1 - 1 ≡ r.depth = omega arith in
    rw (own, eq-eqb r.depth r.depth refl)
    (record {
      between = [];
      it = r;
      before = earlier;
      table_is = refl;
      index_is = depths_length earlier;
      kind_8 = e;
      one_less = refl;
      its_members = tt;
    })

open_after : (allowed : ℕ) (r : Record) (earlier : List Record) → r.depth ≤ allowed → Open allowed earlier → Open (allowed_after r) (r ∷ earlier)
open_after allowed r earlier low o d some le =
    elim (decide (is_group r)) [
      | inl e ↦
          elim (decide (eqb d (r.depth + 1))) [
            | inl z ↦ subst (λ (x : ℕ). GroupOf (r ∷ earlier) x (last_of (x - 1) (depths (r ∷ earlier)))) (sym (eqb-true d (r.depth + 1) z)) (opened r earlier e)
            | inr z ↦
                let other = eqb-false d (r.depth + 1) z in
                let deep : d ≤ r.depth = omega (arith, after_group r e) in
                still_open r earlier d (omega arith) deep (o d some (omega arith))
          ]
      | inr e ↦
          let deep : d ≤ r.depth = omega (arith, after_leaf r e) in
          still_open r earlier d (omega arith) deep (o d some (omega arith))
    ]

in_groups_after : (allowed n : ℕ) (earlier rs : List Record) → Open allowed earlier → Valid allowed n rs → Told (depths earlier) rs → InGroups earlier rs
in_groups_after allowed n earlier [] o v told = tt
in_groups_after allowed n earlier (r ∷ rs) o v told =
    let g = keeps_good allowed n r v.0 in
    let parent : r.parent ≡ parent_at (depths earlier) r.depth = ap (λ (ps : List ℕ). get_or ps 0 0) told in (
      λ one. parent ∙ rw (eq-eqb r.depth 1 one),
      λ deep.
          let its : r.parent ≡ last_of (r.depth - 1) (depths earlier) = parent ∙ rw (ne_eqb r.depth 1 (λ e. omega arith)) in
          rw its (o r.depth deep g.allows),
      in_groups_after (allowed_after r) n (r ∷ earlier) rs (open_after allowed r earlier g.allows o) v.1 (ap (drop 1) told),
    )

pub in_groups : (n : ℕ) (rs : List Record) → Valid 1 n rs → Told [] rs → InGroups [] rs
in_groups n rs = in_groups_after 1 n [] rs (λ d some le. absurd (omega arith))
