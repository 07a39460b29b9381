-- A step over a complete AVP: what the code makes of its header and its padding is the outline of its own bytes, since its header lies
-- within them and its padding is what is left of them behind its length.
use Prim.Native.Nat.{ℕ, ◌+◌, ◌-◌}
use mathlib.Core.Path.{◌≡◌, ◌∙◌}
use mathlib.Core.Bool.{false}
use mathlib.Core.List.{List}
use native.Mathlib.Omega.{arith}
use lib.ListN.{take, drop, length-drop}
use lib.Seq.{drop-drop}
use Rattle.octets.specs.Octets.{be}
use Rattle.octets.specs.Run.{item}
use Rattle.octets.proofs.Lists.{behind}
use Rattle.record.specs.Outline.{Outline}
use Rattle.rfc6733.specs.Avp.{flags, head_size, padding, data_size, pads}
use Rattle.rfc6733.specs.Records.{unentered}
use Rattle.rfc6733.specs.Search.{outline}
use Rattle.rfc6733.proofs.Complete.{head, sizes}
use Rattle.rfc6733.proofs.Items.{item_same}
use Rattle.avp.specs.declared.AVP.{AVP}
use Rattle.front.proofs.Fronts.{Turn}
use Rattle.steps.specs.declared.Step.TheVariants.{At}
use Rattle.steps.specs.Steps.{past, onto}

-- as the code makes it, of an AVP at a place, its header's size and its padding
abbrev pub made : AVP → ℕ → ℕ → ℕ → Outline
made a at header p =
    record {
      code = a.code;
      flags = a.flags;
      length = a.length;
      vendor = a.vendor_id;
      place = at + header;
      padding = a.size - a.length;
      pads = p;
    }

module _ (s : List ℕ) (at : ℕ) (a : AVP) (t : Turn s at a) where
  -- the AVP's own bytes
  abbrev own : List ℕ
  own = item unentered (drop at s)

  pads_are : be 3 (take (at + a.size - (at + a.length)) (drop (at + a.length) s)) 0 ≡ pads own
  unfolding pads item
  pads_are =
      let left = drop at s in
      let same = item_same (λ x. false) left t.whole in
      let n : at + a.size - (at + a.length) ≡ a.size - a.length = omega arith in
      rw (n, ← drop-drop a.length at s, same.length_is, ← t.fields.length_is, ← t.fields.size_is, behind a.length a.size left t.padded (omega (arith, length-drop at s, t.fits)))

  outline_made : (header p : ℕ) → header ≡ head_size a.flags → p ≡ pads own → made a at header p ≡ outline at own
  unfolding outline
  outline_made header p h e =
      let left = drop at s in
      let same = item_same (λ x. false) left t.whole in
      let z = sizes left in
      let padding_is : a.size - a.length ≡ padding (data_size left) = omega (arith, t.fields.size_is, t.fields.length_is) in
      rw (padding_is, t.fields.code_is, t.fields.length_is, t.fields.vendor_is, h, e, t.fields.flags_is, same.code_is, same.flags_is, same.length_is, same.vendor_is, same.data_is)

  past_is : past (outline at own) ≡ at + a.size
  unfolding past outline
  past_is =
      let left = drop at s in
      let same = item_same (λ x. false) left t.whole in
      let z = sizes left in
      let hd = head (flags left) in
      rw (same.flags_is, same.length_is, same.data_is)
      (omega (arith, t.fields.size_is, t.whole.long))

  pub stepped_over : (header p : ℕ) → header ≡ head_size a.flags
      → p ≡ be 3 (take (at + a.size - (at + a.length)) (drop (at + a.length) s)) 0
      → record { found = At (made a at header p); place = at + a.size } ≡ onto (outline at own)
  stepped_over header p h e = rw (outline_made header p h (e ∙ pads_are), past_is)
