-- A run is entered exactly where the value of the data is Grouped, which the kind alone tells: then the dictionary says Grouped and
-- the data tile, and the value's flags are its members'. Elsewhere the value is what `Value::new` reads, and there are no members.
use Prim.Native.Nat.{ℕ, ◌+◌}
use mathlib.Core.Path.{◌≡◌, refl, sym, ap, ◌∙◌}
use mathlib.Core.Bool.{Bool, true, false, ◌||◌}
use mathlib.Core.Logic.{inl, inr}
use mathlib.Core.List.{List}
use native.Mathlib.Omega.{arith}
use lib.Dec.{eqb}
use borrow.Author.Tests.{eqb-false}
use Rattle.octets.specs.Run.{done, tree, tiles}
use Rattle.octets.proofs.Lists.{over_none}
use Rattle.refusal.proofs.Tests.{decide}
use Rattle.record.specs.Value as values
use Rattle.record.specs.Value.{value}
use Rattle.record.specs.Kinds.{grouped}
use Rattle.rfc6733.specs.Dictionary.{Dictionary}
use Rattle.rfc6733.specs.Records.{avps, tiling, errors, group_value}
use Rattle.rfc6733.specs.Entered.{value_in, entered}
use Rattle.rfc6733.proofs.Tiling.{tiles_any}
use Rattle.rfc6733.proofs.KindsRead.{Kind}
use Rattle.value.specs.declared.Read.{Read}
use Rattle.value.specs.Values.{kind_of, number_of, read_as, Shows, value_if, new_value}
use Rattle.avps.specs.declared.fill.Ran.{Ran}
use Rattle.avps.specs.Fill.{group_before, Tiled, Recorded, Members}
use Rattle.avps.proofs.OtherKinds.{Other, other_read}

-- the data s are a group that tiles, and are entered
pub record Group (D : Dictionary) (code vendor : ℕ) (s : List ℕ) : Type 0 where
  pub tiles_is : tiles (tree (avps D) s) ≡ true
  pub entered_is : entered D code vendor s ≡ tree (avps D) s
  pub value_is : value_in D code vendor s ≡ value grouped (errors D (tree (avps D) s)) 0

-- they are not
record NoGroup (D : Dictionary) (code vendor : ℕ) (s : List ℕ) : Type 0 where
  entered_is : entered D code vendor s ≡ done
  value_is : value_in D code vendor s ≡ new_value D.as_address (D.kind code vendor) s

-- what is known of a group changes nothing
pub known_value : (D : Dictionary) (code vendor : ℕ) (s : List ℕ) (whole : Bool) → Tiled whole D code vendor s
    → value_if (whole || tiling s) D.as_address (D.kind code vendor) s ≡ new_value D.as_address (D.kind code vendor) s
unfolding value_if new_value
known_value D code vendor s false tiled = refl
known_value D code vendor s true tiled =
    elim (decide (eqb (D.kind code vendor) grouped)) [ inl e ↦ rw (e, tiled refl e) | inr e ↦ rw e ]

-- the kind of a value that is shown
shown_kind : {v : values.Value} {s : List ℕ} {r : Read} → Shows v s r → v.kind ≡ kind_of r.value
unfolding read_as
shown_kind shown = ap (λ (v : values.Value). v.kind) (sym shown.value)

module _ {D : Dictionary} {code vendor : ℕ} {s : List ℕ} {r : Read} (shown : Shows (new_value D.as_address (D.kind code vendor) s) s r) where
  pub a_group : Kind Other (D.as_address s) → kind_of r.value ≡ grouped → Group D code vendor s
  unfolding new_value value_if value_in entered group_value
  a_group h kind = by (eqb (D.kind code vendor) grouped) (tiling s) refl refl
    where
      by : (g t : Bool) → eqb (D.kind code vendor) grouped ≡ g → tiling s ≡ t → Group D code vendor s
      by true true e u = let t = tiles_any D s ∙ u in record { tiles_is = t; entered_is = rw (e, u); value_is = rw (e, t) }
      by true false e u = let k = rw (e, u) at (shown_kind shown ∙ kind) in absurd (omega arith)
      by false t e u = absurd (eqb-false _ _ (other_read (D.kind code vendor) e s D.as_address h).holds (rw e at (shown_kind shown ∙ kind)))

  no_group : (kind_of r.value ≡ grouped → ⊥) → NoGroup D code vendor s
  unfolding new_value value_if value_in entered group_value
  no_group other = by (eqb (D.kind code vendor) grouped) (tiling s) refl refl
    where
      by : (g t : Bool) → eqb (D.kind code vendor) grouped ≡ g → tiling s ≡ t → NoGroup D code vendor s
      by true true e u = absurd (other (sym (rw (e, u) at (shown_kind shown))))
      by true false e u = let t = tiles_any D s ∙ u in record { entered_is = rw (e, u); value_is = rw (e, u, t) }
      by false t e u = record { entered_is = rw e; value_is = rw e }

  pub no_members : {place depth first k n : ℕ} {store : List ℕ} → (kind_of r.value ≡ grouped → ⊥) → k ≡ kind_of r.value → n ≡ number_of r.value
      → Members D code vendor s place depth first (record { kind = k; number = n; errors = r.errors; records = 0 }) store store
  unfolding read_as
  no_members {store} other ek en =
      let g = no_group other in
      let v : read_as r ≡ value_in D code vendor s = shown.value ∙ sym g.value_is in
      record {
        kind_is = ek ∙ ap (λ (x : values.Value). x.kind) v;
        number_is = en ∙ ap (λ (x : values.Value). x.number) v;
        errors_are = ap (λ (x : values.Value). x.errors) v;
        count_is = rw g.entered_is;
        store_is = rw g.entered_is (sym (over_none store));
      }

pub members_written : {D : Dictionary} {code vendor : ℕ} {s : List ℕ} {place depth deeper first k : ℕ} {r : Ran} {before after : List ℕ}
    → Group D code vendor s → k ≡ grouped → deeper ≡ depth + 1 → Recorded D (tree (avps D) s) place deeper (group_before first) first r before after
    → Members D code vendor s place depth first (record { kind = k; number = 0; errors = r.errors; records = r.records }) before after
members_written g ek one w =
    record {
      kind_is = ek ∙ ap (λ (x : values.Value). x.kind) (sym g.value_is);
      number_is = ap (λ (x : values.Value). x.number) (sym g.value_is);
      errors_are = w.errors_are ∙ ap (λ (x : values.Value). x.errors) (sym g.value_is);
      count_is = rw g.entered_is w.count_is;
      store_is = rw (g.entered_is, ← one) w.store_is;
    }
