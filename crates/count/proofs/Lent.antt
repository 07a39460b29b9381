-- The parts of a run that are lent: an AVP's own bytes, which are the first item of what is left of the run and so exact; its payload,
-- from the end of its header to its length; and what is left after it, from its size on.
use Prim.Native.Nat.{ℕ, ◌+◌, ◌-◌, ◌≤◌}
use mathlib.Core.Path.{◌≡◌, ap, ◌∙◌}
use mathlib.Core.Bool.{Bool, true}
use mathlib.Core.List.{List}
use native.Mathlib.Omega.{arith}
use lib.ListN.{length, take, drop}
use Rattle.octets.specs.Run.{item, tree}
use Rattle.rfc6733.specs.Avp.{flags, head_size, data_size, payload, complete, Exact}
use Rattle.rfc6733.specs.Dictionary.{Dictionary}
use Rattle.rfc6733.specs.Records.{avps}
use Rattle.rfc6733.proofs.Complete.{Whole, sizes, complete_whole}
use Rattle.rfc6733.proofs.Items.{avps_by, item_same}
use Rattle.rfc6733.proofs.Alone.{Joined, joined, item_exact}
use Rattle.avp.specs.declared.AVP.{AVP}
use Rattle.front.specs.Front.{avp_of}
use Rattle.front.proofs.Fronts.{Turn, next_is, own_is, Here}

-- as `&s[from..to]` lends it
abbrev pub lent : List ℕ → ℕ → ℕ → List ℕ
lent s from to = take (to - from) (drop from s)

-- ---- an AVP's own bytes

-- own is the bytes of the AVP a, which stands at a place of s: they are exact, and what is left there is they and what follows them
pub record Own (D : Dictionary) (s : List ℕ) (at : ℕ) (a : AVP) (own : List ℕ) : Type 0 where
  pub is : a ≡ avp_of own
  pub exact : Exact own
  pub length_is : length own ≡ a.size
  pub split : Joined D a.size (tree (avps D) (drop at s)) (tree (avps D) own) (tree (avps D) (drop (at + a.size) s))

-- the fields lie within the item
item_avp : (nested : List ℕ → Bool) (s : List ℕ) → Whole s → avp_of (item (avps_by nested) s) ≡ avp_of s
unfolding avp_of
item_avp nested s w = let e = item_same nested s w in rw (e.code_is, e.flags_is, e.length_is, e.vendor_is, e.size_is)

pub own : (D : Dictionary) {s : List ℕ} {at : ℕ} {a : AVP} → Turn s at a → Own D s at a (lent s at (at + a.size))
own D {s} {at} {a} t =
    let size : at + a.size - at ≡ a.size = omega arith in
    let item_is = own_is (avps D).nested s at a t in
    rw size
    record {
      is = rw (item_is, item_avp (avps D).nested (drop at s) t.whole) t.is;
      exact = rw item_is (item_exact D (drop at s) t.complete_here);
      length_is = t.own_length;
      split = rw (item_is, next_is (avps D).nested s at a t, t.fields.size_is) (joined D (drop at s) t.complete_here);
    }

-- ---- its payload

pub record Inside (s : List ℕ) (from to : ℕ) : Type 0 where
  pub ordered : from ≤ to
  pub within : to ≤ length s
  pub is : lent s from to ≡ payload s

pub inside : (s : List ℕ) (a : AVP) (from : ℕ) → complete s ≡ true → Here s a → from ≡ head_size a.flags → Inside s from a.length
unfolding payload data_size
inside s a from e h f =
    let w = complete_whole s e in
    let z = sizes s in
    let b : from ≡ head_size (flags s) = f ∙ ap head_size h.flags_is in
    record {
      ordered = omega arith;
      within = omega arith;
      is = rw (b, h.length_is);
    }
