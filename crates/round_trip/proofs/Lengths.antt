-- How long a forest's bytes are. An AVP is its header, its data and its padding, so the length is the fold of these, wherever the
-- data that places point at are there. With its padding an AVP is whole words, and so is a forest.
use Prim.Native.Nat.{ℕ, ◌+◌, ◌%◌, ◌≤◌}
use mathlib.Core.Path.{◌≡◌, refl, ◌∙◌}
use mathlib.Core.Bool.{cond}
use mathlib.Core.Logic.{inl, inr}
use mathlib.Core.List.{List}
use native.Mathlib.Omega.{arith}
use lib.ListN.{length, drop, length-append, length-drop}
use lib.Seq.{length-take-le}
use Rattle.octets.specs.Octets.{pack, octets}
use Rattle.octets.proofs.Numbers.{length_octets, length_pack}
use Rattle.flags.specs.Flags.{bit}
use Rattle.rfc6733.specs.Avp.{vendor_bit, head_size, padding}
use Rattle.record.specs.Record.{Record}
use Rattle.record.specs.Forest.{Forest, none, node, forest}
use Rattle.rfc6733.specs.Writer.{Fields, is_group, head_of, stated_data, avp_bytes, forest_bytes, message_bytes, table_bytes, header_fields, head_fields, pad_bytes, body_of}
use Rattle.record.specs.Table.{table_of}
use Rattle.rfc6733.proofs.Complete.{head}
use Rattle.refusal.proofs.Tests.{decide}
use Rattle.round_trip.specs.Forests.{size}
use Rattle.round_trip.specs.Rules.{Good, Valid, Kept}
use Rattle.round_trip.proofs.Kept.{valid_kept}

-- ---- an AVP

pub head_low : (r : Record) → 8 ≤ head_of r
unfolding head_of
head_low r = (head r.flags).low

pub head_length : (r : Record) (n : ℕ) → length (pack (head_fields r n)) ≡ head_of r
unfolding head_of head_size
head_length r n =
    length_pack (head_fields r n) ∙ elim (decide (bit vendor_bit r.flags)) [ inl e ↦ rw e | inr e ↦ rw e ]

pub pad_length : (r : Record) → r.padding ≤ 3 → length (pad_bytes r) ≡ r.padding
pad_length r h = let l = length_octets 3 r.pads in length-take-le r.padding (octets 3 r.pads) (omega arith)

pub avp_length_lem : (r : Record) (body : List ℕ) → r.padding ≤ 3 → length (avp_bytes r body) ≡ head_of r + length body + r.padding
unfolding avp_bytes
avp_length_lem r body h =
    rw (length-append (pack (head_fields r (head_of r + length body))) _, length-append body, head_length, pad_length r h) (omega arith)

-- ---- its data

-- so many bytes of data, whose padding is the record's
pub record Padded (r : Record) (n : ℕ) : Type 0 where
  pub few : r.padding ≤ 3
  pub is : r.padding ≡ padding n
  pub words : (n + r.padding) % 4 ≡ 0

padded : (r : Record) (n : ℕ) → r.padding ≡ padding n → Padded r n
unfolding padding
padded r n e = record { few = omega arith; is = e; words = omega arith }

-- whole words have none
pub no_padding : (n : ℕ) → n % 4 ≡ 0 → padding n ≡ 0
unfolding padding
no_padding n e = omega arith

pub record Body (pool : List ℕ) (r : Record) (members : List ℕ) (n : ℕ) : Type 0 where
  pub size_is : length (body_of pool r members) ≡ cond (is_group r) n (stated_data r)
  pub padded_is : Padded r (length (body_of pool r members))

-- the data of a record that keeps the rules, with members of n bytes in whole words
pub body : (pool : List ℕ) (allowed : ℕ) (r : Record) (members : List ℕ) (n : ℕ) → Good allowed (length pool) r → length members ≡ n → n % 4 ≡ 0
    → Body pool r members n
body pool allowed r members n g e w =
    elim (decide (is_group r)) [
      | inl x ↦
          let u = g.group x in
          record { size_is = rw x e; padded_is = rw x (padded r (length members) (cc (no_padding n w))) }
      | inr x ↦
          let l = g.leaf x in
          let z = length-take-le (stated_data r) (drop r.place pool) (omega (arith, length-drop r.place pool)) in
          record { size_is = rw x z; padded_is = rw x (padded r _ (cc)) }
    ]

-- ---- a forest

pub record Long (pool : List ℕ) (f : Forest) : Type 0 where
  pub is : length (forest_bytes pool f) ≡ size f
  pub words : size f % 4 ≡ 0

pub long : (pool : List ℕ) (f : Forest) → Kept (length pool) f → Long pool f
unfolding head_of
long pool none k = record { is = refl; words = refl }
long pool (node r i t) k =
    let inside = long pool i k.1 in
    let after = long pool t k.2 in
    let b = body pool r.depth r (forest_bytes pool i) (size i) k.0 inside.is inside.words in
    let here = body_of pool r (forest_bytes pool i) in
    record {
      is = omega (arith, length-append (avp_bytes r here) (forest_bytes pool t), avp_length_lem r here b.padded_is.few, b.size_is, after.is);
      words = omega (arith, head r.flags, b.size_is, b.padded_is.words);
    }

-- ---- a message

pub message_length_lem : (f : Fields) (inside : List ℕ) → length (message_bytes f inside) ≡ 20 + length inside
unfolding message_bytes
message_length_lem f inside =
    let front = header_fields f (20 + length inside) in
    rw (length-append (pack front) inside, length_pack front)

pub total_size : (f : Fields) (table pool : List ℕ) → Valid 1 (length pool) (table_of table)
    → length (table_bytes f table pool) ≡ 20 + size (forest (table_of table))
unfolding table_bytes
total_size f table pool v =
    rw (message_length_lem, (long pool (forest (table_of table)) (valid_kept 1 (length pool) (table_of table) v)).is)
