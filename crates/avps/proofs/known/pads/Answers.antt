-- `known::pads` meets its contract: the padding is the end of the last word, and a shift by whole bytes moves it to the front of three.
use Prim.Native.Nat.{ℕ, ◌+◌, ◌-◌, ◌*◌, ◌%◌, ◌^◌, ◌≤◌}
use mathlib.Core.Path.{◌≡◌, ap, ◌∙◌}
use mathlib.Core.List.{List}
use native.Mathlib.Omega.{arith}
use lib.ListN.{length, drop}
use Rattle.octets.specs.Octets.{be, Bytes}
use Rattle.octets.proofs.Words.{end_of_word}
use Rattle.rfc6733.specs.Avp.{Exact}
use Rattle.rfc6733.specs.Avp as avp
use Rattle.rfc6733.proofs.Complete.{complete_whole, sizes, head}
use Rattle.avp.specs.declared.AVP.{AVP}
use Rattle.front.specs.Front.{avp_of}
use Rattle.front.proofs.Fronts.{Here, here}
use Rattle.avps.proofs.known.pads.Goals as goal

-- the sizes of an AVP of which s is the bytes
record Ends (s : List ℕ) (a : AVP) : Type 0 where
  fields : Here s a
  size_is : a.size ≡ length s
  padded : a.length ≤ a.size
  few : a.size - a.length ≤ 3
  some : 8 ≤ a.size

ends : (s : List ℕ) (a : AVP) → (a ≡ avp_of s) × Exact s → Ends s a
ends s a (is, x) =
    let h = here s a is in
    let w = complete_whole s x.whole in
    let z = sizes s in
    let hd = head (avp.flags s) in
    record { fields = h; size_is = omega (arith, x.size_is); padded = omega arith; few = omega arith; some = omega arith }

-- as the code computes it
last_bytes : (s : List ℕ) (a : AVP) (w : ℕ) → Ends s a → Bytes s → w ≡ be 4 s (a.size - 4)
    → w * 2 ^ (24 - 8 * (a.size - a.length)) % 0x100000000 % 0x1000000 ≡ avp.pads s
unfolding avp.pads
last_bytes s a w e bytes word =
    let n = a.size - 4 in
    let p = a.size - a.length in
    let from : n + 4 - p ≡ avp.avp_length s = omega (arith, e.fields) in
    ap (λ (x : ℕ). x * 2 ^ (24 - 8 * p) % 0x100000000 % 0x1000000) word
    ∙ end_of_word s bytes n (omega arith) p e.few
    ∙ ap (λ (k : ℕ). be 3 (drop k s) 0) from

pub returns : goal.returns
returns c =
    last_bytes _ _ _ (ends _ _ c.requires) (λ i. omega (arith, c.type_inv.s i)) c.word.ensures

pub overflow_sub-padding : goal.overflow_sub-padding
overflow_sub-padding c = omega (arith, ends _ _ c.requires)

pub overflow_sub-a : goal.overflow_sub-a
overflow_sub-a c = omega (arith, ends _ _ c.requires)

pub word-requires : goal.word-requires
word-requires c = omega (arith, ends _ _ c.requires)

pub overflow_cast-result : goal.overflow_cast-result
overflow_cast-result c = omega (arith, ends _ _ c.requires)

pub overflow_mul-result : goal.overflow_mul-result
overflow_mul-result c = omega (arith, ends _ _ c.requires)

pub overflow_sub-result : goal.overflow_sub-result
overflow_sub-result c = omega (arith, ends _ _ c.requires)

pub overflow_shl-result : goal.overflow_shl-result
overflow_shl-result c = omega (arith, ends _ _ c.requires)
