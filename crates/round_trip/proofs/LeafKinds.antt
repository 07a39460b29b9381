-- The value of an AVP that is no group is never Grouped, and its kind is one of 0 to 14: it is the dictionary's kind, or
-- Unhandled, or what an Address is read as. The dictionaries of both readings and of the editions are lawful: every row of their tables
-- is looked at.
use Prim.Native.Nat.{ℕ, ◌≤◌}
use mathlib.Core.Path.{◌≡◌, refl}
use mathlib.Core.Bool.{Bool, true, false, ◌&&◌}
use mathlib.Core.Logic.{inl, inr}
use mathlib.Core.List.{List, [], ◌∷◌, ◌++◌}
use native.Mathlib.Omega.{arith}
use lib.Dec.{leb, eqb}
use borrow.Author.Tests.{leb-true}
use Rattle.rfc6733.specs.Avp.{payload}
use Rattle.record.specs.Value.{Value}
use Rattle.record.specs.Kinds.{grouped, time}
use Rattle.rfc6733.specs.Dictionary.{Dictionary, base_avps, sawp_avps, by_rows, rfc, sawp}
use Rattle.record.specs.Rows.{Row, kind_in}
use Rattle.rfc6733.specs.CreditControl.{avps4006, avps8506, rfc4006, rfc8506, edition_of}
use Rattle.rfc6733.proofs.CreditControl.{each_edition}
use Rattle.rfc6733.specs.Records.{avp_kind, value_of}
use Rattle.refusal.proofs.Answers.{and-true}
use Rattle.refusal.proofs.Tests.{decide}
use Rattle.rfc6733.proofs.KindsRead.{Kind, kind_read, bare_kind, family_kind}
use Rattle.round_trip.specs.Trip.{Ungrouped, Lawful}

-- ---- values

-- a kind that is not Grouped
abbrev Leaf : ℕ → Type 0
Leaf k = (k ≤ time) × (eqb k grouped ≡ false)

ungrouped : {v : Value} → Kind Leaf v → Ungrouped v
ungrouped h = record { low = h.holds.0; other = h.holds.1 }

pub value_leaf : (D : Dictionary) → Lawful D → (a : List ℕ) → eqb (avp_kind D a) grouped ≡ false → Ungrouped (value_of D a)
unfolding value_of avp_kind
value_leaf D lawful a e =
    let h = lawful.addresses (payload a) in
    ungrouped
    (kind_read Leaf (omega arith, refl) (avp_kind D a) (lawful.kinds _ _, e) (payload a) D.as_address (record { holds = (h.low, h.other) }))

-- ---- the dictionaries

abbrev known : List Row → Bool
known [] = true
known (r ∷ rs) = leb r.kind time && known rs

kind_known : (rs : List Row) (c : ℕ) → known rs ≡ true → kind_in rs c ≤ time
kind_known [] c e = omega arith
kind_known (r ∷ rs) c e =
    let (low, rest) = and-true (leb r.kind time) (known rs) e in
    elim (decide (eqb c r.code)) [ inl x ↦ rw x (leb-true r.kind time low) | inr x ↦ rw x (kind_known rs c rest) ]

pub sawp_lawful : Lawful sawp
unfolding sawp
sawp_lawful = record { kinds = λ c v. kind_known sawp_avps c refl; addresses = λ s. ungrouped (bare_kind Leaf (omega arith, refl) (omega arith, refl) s) }

rows_lawful : (rs : List Row) → known rs ≡ true → Lawful (by_rows rs)
rows_lawful rs e =
    record {
      kinds = λ c v. elim (decide (eqb v 0)) [ inl x ↦ rw x (kind_known rs c e) | inr x ↦ rw x (omega arith) ];
      addresses = λ s. ungrouped (family_kind Leaf (omega arith, refl) (omega arith, refl) s);
    }

pub rfc_lawful : Lawful rfc
unfolding rfc
rfc_lawful = rows_lawful base_avps refl

pub edition_lawful : (n : ℕ) → Lawful (edition_of n)
unfolding rfc4006 rfc8506
edition_lawful = each_edition Lawful (rows_lawful (avps4006 ++ base_avps) refl) (rows_lawful (avps8506 ++ base_avps) refl) rfc_lawful
