-- `Value::new_known` meets its contract: at each kind the definition has one form, and the arm of that kind reads it. What no arm
-- names is Unhandled.
use mathlib.Core.Path.{◌≡◌, refl}
use mathlib.Core.Bool.{◌||◌}
use native.Mathlib.Omega.{arith}
use Rattle.std.proofs.lemmas.Bool.Decides.{nat_tests}
use Rattle.record.specs.Kinds.{unhandled, integer32, integer64, unsigned32, unsigned64, float32, float64, enumerated, time}
use Rattle.rfc6733.specs.Value.{data_as}
use Rattle.rfc6733.specs.Records.{tiling}
use Rattle.attribute.specs.ByTable.{known, address_by}
use Rattle.address.specs.Addresses.{Finds}
use Rattle.value.specs.declared.Value.TheVariants.{OctetString, Integer32, Integer64, Unsigned32, Unsigned64, Float32, Float64, Enumerated, UTF8String, DiameterIdentity, DiameterURI, Time}
use Rattle.value.specs.Values.{value_if}
use Rattle.value.proofs.Shown.{read_as_lem, no_address, is_unhandled, a_number, a_group, a_text, an_address}
use Rattle.value.proofs.Value.new_known.Goals as goal
use Rattle.value.proofs.Value.new_known.Goals.{Joined-families, Joined-tiles, then-tiles, else-tiles, then-families, else-families}

pub returns-in-1 : goal.returns-in-1
unfolding value_if data_as
returns-in-1 c = rw c.in-1.is (no_address _ _ _ (read_as_lem _ OctetString 0 c.good.ensures) refl)

-- a group tiles where that is known, and else where it is asked
known_or_asked : (c : Joined-tiles) → let a = c.args in a.tiles || tiling a.«data».now ≡ c.if-tiles.group
known_or_asked c =
    elim c.if-tiles.branch [
      | then-tiles w ↦ rw (w.group-is, w.if-tiles.true)
      | else-tiles w ↦ rw (w.group-is, w.tiles.ensures, w.if-tiles.false)
    ]

pub returns-after-tiles : goal.returns-after-tiles
unfolding value_if
returns-after-tiles c =
    let tiles = known_or_asked (goal.at.returns-after-tiles c).Joined-tiles in
    rw (c.in-8.is, tiles) (a_group _ _ c.if-tiles.group c.group.ensures)

pub returns-in-10 : goal.returns-in-10
unfolding value_if data_as
returns-in-10 c = rw c.in-10.is (a_text _ _ UTF8String refl refl _ c.check.ensures c.text.ensures)

pub returns-in-11 : goal.returns-in-11
unfolding value_if data_as
returns-in-11 c = rw c.in-11.is (a_text _ _ DiameterIdentity refl refl _ c.check-in-11.ensures c.text-in-11.ensures)

pub returns-in-12 : goal.returns-in-12
unfolding value_if data_as
returns-in-12 c = rw c.in-12.is (a_text _ _ DiameterURI refl refl _ c.check-in-12.ensures c.text-in-12.ensures)

-- what was found is what the dictionary has
found_by : (c : Joined-families) → let a = c.args in
    Finds (address_by a.families a.«data».now) a.«data».now c.if-families.address
unfolding address_by
found_by c =
    elim c.if-families.branch [
      | then-families w ↦ rw (w.address-is, w.if-families.true) w.after_family.ensures
      | else-families w ↦ rw (w.address-is, w.if-families.false) w.bare.ensures
    ]

pub returns-after-families : goal.returns-after-families
unfolding value_if data_as
returns-after-families c =
    let found = found_by (goal.at.returns-after-families c).Joined-families in
    rw c.in-13.is (an_address _ _ _ _ found c.address.ensures)

pub returns-in-2 : goal.returns-in-2
unfolding value_if data_as
returns-in-2 c =
    let read = c.number.ensures in rw c.in-2.is (a_number _ _ 4 integer32 Integer32 (λ n. (refl, refl)) refl read.few read.enough)

pub returns-in-3 : goal.returns-in-3
unfolding value_if data_as
returns-in-3 c =
    let read = c.number-in-3.ensures in rw c.in-3.is (a_number _ _ 8 integer64 Integer64 (λ n. (refl, refl)) refl read.few read.enough)

pub returns-in-4 : goal.returns-in-4
unfolding value_if data_as
returns-in-4 c =
    let read = c.number-in-4.ensures in rw c.in-4.is (a_number _ _ 4 unsigned32 Unsigned32 (λ n. (refl, refl)) refl read.few read.enough)

pub returns-in-5 : goal.returns-in-5
unfolding value_if data_as
returns-in-5 c =
    let read = c.number-in-5.ensures in rw c.in-5.is (a_number _ _ 8 unsigned64 Unsigned64 (λ n. (refl, refl)) refl read.few read.enough)

pub returns-in-6 : goal.returns-in-6
unfolding value_if data_as
returns-in-6 c =
    let read = c.number-in-6.ensures in rw c.in-6.is (a_number _ _ 4 float32 Float32 (λ n. (refl, refl)) refl read.few read.enough)

pub returns-in-7 : goal.returns-in-7
unfolding value_if data_as
returns-in-7 c =
    let read = c.number-in-7.ensures in rw c.in-7.is (a_number _ _ 8 float64 Float64 (λ n. (refl, refl)) refl read.few read.enough)

pub returns-in-9 : goal.returns-in-9
unfolding value_if data_as
returns-in-9 c =
    let read = c.number-in-9.ensures in rw c.in-9.is (a_number _ _ 4 enumerated Enumerated (λ n. (refl, refl)) refl read.few read.enough)

pub returns-in-14 : goal.returns-in-14
unfolding value_if data_as
returns-in-14 c =
    let read = c.number-in-14.ensures in rw c.in-14.is (a_number _ _ 4 time Time (λ n. (refl, refl)) refl read.few read.enough)

-- what no arm names is no kind
pub returns-in_default : goal.returns-in_default
unfolding value_if data_as
returns-in_default c =
    let none : known c.args.kind ≡ unhandled = grind (arith, nat_tests) in
    rw none (is_unhandled _ _ 0 c.unhandled.ensures)
