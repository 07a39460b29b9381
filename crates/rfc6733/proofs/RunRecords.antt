-- Laws of a run's records, over any dictionary: how many there are does not depend on it, nor on place and depth, and is at most
-- the headers tried; places and depths shift. Each is an induction over the tree.
use Prim.Native.Nat.{ℕ, ◌+◌, ◌≤◌}
use mathlib.Core.Path.{◌≡◌, refl}
use mathlib.Core.Logic.{inl, inr}
use mathlib.Core.List.{List, map, map-append}
use native.Mathlib.Nat.{add_assoc}
use native.Mathlib.Omega.{arith}
use lib.ListN.{length, length-append}
use Rattle.octets.specs.Run.{Tree, done, broken, plain, group, tiles, tried}
use Rattle.rfc6733.specs.Avp as avp
use Rattle.record.specs.Value.{Value}
use Rattle.rfc6733.specs.Dictionary.{Dictionary}
use Rattle.record.specs.Record.{Record}
use Rattle.refusal.proofs.Tests.{decide}
use Rattle.rfc6733.specs.Records.{value_of, record_of, group_value, records, record_count}

pub records_count : (D : Dictionary) (place depth : ℕ) (t : Tree) → length (records D place depth t) ≡ record_count t
records_count D place depth done = refl
records_count D place depth broken = refl
records_count D place depth (plain a rest) = let r = records_count D (place + length a) depth rest in omega arith
records_count D place depth (group a inner rest) =
    let members = records D (place + avp.head_size (avp.flags a)) (depth + 1) inner in
    let i = records_count D (place + avp.head_size (avp.flags a)) (depth + 1) inner in
    let r = records_count D (place + length a) depth rest in
    elim (decide (tiles inner)) [
      | inl e ↦ rw e (omega (arith, length-append members (records D (place + length a) depth rest)))
      | inr e ↦ rw e (omega arith)
    ]

-- a record is a header that was tried
pub count_tried : (t : Tree) → record_count t ≤ tried t
count_tried done = omega arith
count_tried broken = omega arith
count_tried (plain a rest) = omega (arith, count_tried rest)
count_tried (group a inner rest) =
    let i = count_tried inner in
    let r = count_tried rest in
    elim (decide (tiles inner)) [ inl e ↦ rw e (omega arith) | inr e ↦ rw e (omega arith) ]

-- ---- places and depths shift

-- a record moved by so many bytes, and down by so many levels
unfoldable pub moved : ℕ → ℕ → Record → Record
moved bytes levels r =
    record {
      code = r.code;
      flags = r.flags;
      length = r.length;
      vendor = r.vendor;
      place = bytes + r.place;
      depth = levels + r.depth;
      kind = r.kind;
      errors = r.errors;
      padding = r.padding;
      pads = r.pads;
      value = r.value;
      parent = r.parent;
    }

module _ (D : Dictionary) (bytes levels : ℕ) where
  record_moved : (place depth : ℕ) (a : List ℕ) (v : Value)
      → record_of (bytes + place) (levels + depth) a v ≡ moved bytes levels (record_of place depth a v)
  unfolding record_of moved
  record_moved place depth a v = rw (add_assoc bytes place (avp.head_size (avp.flags a)))

  pub records_moved : (place depth : ℕ) (t : Tree)
      → records D (bytes + place) (levels + depth) t ≡ map (moved bytes levels) (records D place depth t)
  records_moved place depth done = refl
  records_moved place depth broken = refl
  records_moved place depth (plain a rest) =
      rw (record_moved place depth a (value_of D a), add_assoc bytes place (length a), records_moved (place + length a) depth rest)
  records_moved place depth (group a inner rest) =
      let h = avp.head_size (avp.flags a) in
      let members = records D (place + h) (depth + 1) inner in
      let after = records D (place + length a) depth rest in
      let i = records_moved (place + h) (depth + 1) inner in
      let r = records_moved (place + length a) depth rest in
      rw (record_moved place depth a (group_value D inner), add_assoc bytes place (length a), r)
      (elim (decide (tiles inner)) [
        | inl e ↦ rw (e, add_assoc bytes place h, add_assoc levels depth 1, i, map-append (moved bytes levels) members after)
        | inr e ↦ rw e
      ])
