-- AVPs are items that a run may have: a complete one has at least 8 bytes, all there, and its data are shorter than it. Its
-- fields are those that stand at the front of what is left of the run, since they lie within its size.
use Prim.Native.Nat.{ℕ, ◌≤◌}
use mathlib.Core.Path.{◌≡◌, ap, ◌∙◌}
use mathlib.Core.Bool.{Bool, true}
use mathlib.Core.Logic.{inl, inr}
use mathlib.Core.List.{List}
use native.Mathlib.Omega.{arith}
use lib.ListN.{length, take, drop, length-take, length-drop}
use Rattle.octets.specs.Octets.{Bytes}
use Rattle.octets.specs.Run.{Format, item}
use Rattle.octets.proofs.Held.{bytes_take, bytes_drop}
use Rattle.octets.proofs.Lists.{part_of_front}
use Rattle.octets.proofs.Numbers.{be_take}
use Rattle.octets.proofs.Runs.{Sound}
use Rattle.flags.specs.Flags.{bit}
use Rattle.rfc6733.specs.Avp.{code, flags, avp_length, vendor_bit, head_size, vendor, data_size, avp_size, payload, complete}
use Rattle.refusal.proofs.Tests.{decide}
use Rattle.rfc6733.proofs.Complete.{head, Whole, sizes, complete_whole}

-- a and s have the same AVP at the front
pub record Same (a s : List ℕ) : Type 0 where
  pub code_is : code a ≡ code s
  pub flags_is : flags a ≡ flags s
  pub length_is : avp_length a ≡ avp_length s
  pub vendor_is : vendor a ≡ vendor s
  pub data_is : data_size a ≡ data_size s
  pub size_is : avp_size a ≡ avp_size s
  pub payload_is : payload a ≡ payload s

-- with the vendor bit the header is 12 bytes
pub with_vendor : (f : ℕ) → bit vendor_bit f ≡ true → head_size f ≡ 12
unfolding head_size
with_vendor f e = rw e

-- the first k bytes of what is left have the same AVP, if it is among them
pub same_front : (s : List ℕ) (k : ℕ) → Whole s → avp_size s ≤ k → Same (take k s) s
unfolding vendor data_size avp_size payload
same_front s k w le =
    let h = head (flags s) in
    let z = sizes s in
    let f : flags (take k s) ≡ flags s = be_take 1 s k 4 (omega arith) in
    let l : avp_length (take k s) ≡ avp_length s = be_take 3 s k 5 (omega arith) in
    let hf = ap head_size f in
    record {
      code_is = be_take 4 s k 0 (omega arith);
      flags_is = f;
      length_is = l;
      vendor_is =
          rw f
          (elim (decide (bit vendor_bit (flags s))) [ inl e ↦ rw (e, be_take 4 s k 8 (omega (arith, with_vendor (flags s) e))) | inr e ↦ rw e ]);
      data_is = rw (l, hf);
      size_is = rw (l, hf);
      payload_is = rw (l, hf) (part_of_front (head_size (flags s)) (data_size s) k s (omega arith));
    }

pub payload_length : (s : List ℕ) → Whole s → length (payload s) ≡ data_size s
unfolding payload
payload_length s w =
    let d = length-drop (head_size (flags s)) s in
    length-take (data_size s) (drop (head_size (flags s)) s) ∙ omega (arith, sizes s)

pub bytes_payload : (a : List ℕ) → Bytes a → Bytes (payload a)
unfolding payload
bytes_payload a b = bytes_take (data_size a) (drop (head_size (flags a)) a) (bytes_drop (head_size (flags a)) a b)

-- ---- an item's own bytes

-- AVPs as items, whichever of them are entered
abbrev pub avps_by : (List ℕ → Bool) → Format
avps_by nested = record { complete = complete; size = avp_size; nested = nested; payload = payload }

module _ (nested : List ℕ → Bool) (s : List ℕ) (w : Whole s) where
  pub item_same : Same (item (avps_by nested) s) s
  unfolding item
  item_same = same_front s (avp_size s) w (omega arith)

  pub item_length : length (item (avps_by nested) s) ≡ avp_size s
  unfolding item
  item_length = length-take (avp_size s) s ∙ omega (arith, w.room)

  pub item_whole : Whole (item (avps_by nested) s)
  item_whole =
      let e = item_same in
      let h = ap head_size e.flags_is in
      omega (arith, item_length, head (flags s), sizes s)

pub sound : (nested : List ℕ → Bool) → Sound (avps_by nested)
sound nested =
    record {
      some = λ s e. omega (arith, complete_whole s e, head (flags s), sizes s);
      there = λ s e. (complete_whole s e).room;
      inside =
          λ s e.
          let w = complete_whole s e in
          let p = ap length (item_same nested s w).payload_is ∙ payload_length s w in
          omega (arith, head (flags s), sizes s);
    }
