-- What an answer of `first_avp` says of the bytes that it was asked of, for loops over a run: an AVP is answered exactly where one
-- is complete, and then what is left after it is the run from its size on.
use Prim.Native.Nat.{ℕ, ◌+◌, ◌-◌, ◌≤◌, ◌<◌}
use mathlib.Core.Path.{◌≡◌, refl, sym, ap, ◌∙◌}
use mathlib.Core.Bool.{Bool, true, false, cond}
use mathlib.Core.List.{List}
use native.Mathlib.Omega.{arith}
use lib.ListN.{length, take, drop, length-drop}
use lib.Seq.{length-take-le}
use Rattle.octets.specs.Run.{item, after}
use Rattle.octets.proofs.Lists.{rest}
use Rattle.octets.proofs.Turns.{turn_next, turn_own}
use Rattle.rfc6733.specs.Avp.{code, flags, avp_length, head_size, vendor, avp_size, avp_refusals, complete}
use Rattle.refusal.proofs.Answers.{passed}
use Rattle.rfc6733.proofs.Complete as rfc
use Rattle.rfc6733.proofs.Complete.{head, sizes, complete_whole}
use Rattle.rfc6733.proofs.Items.{avps_by, sound}
use Rattle.avp.specs.declared.AVP.{AVP}
use Rattle.std.specs.Prelude.{Option, Some, None, Ok}
use Rattle.refusal.specs.Answer.{answer_of}
use Rattle.front.specs.Front.{avp_of, first_of, parsed_of}

abbrev Was : Option AVP → List ℕ → Type 0
Was (Some a) s = (complete s ≡ true) × (a ≡ avp_of s)
Was None s = complete s ≡ false

was : (s : List ℕ) → Was (first_of s) s
unfolding first_of
was s = by (complete s) refl
  where
    by : (b : Bool) → complete s ≡ b → Was (cond b (Some (avp_of s)) None) s
    by true t = (t, refl)
    by false t = t

pub was_whole : (s : List ℕ) (a : AVP) → Some a ≡ first_of s → (complete s ≡ true) × (a ≡ avp_of s)
was_whole s a e = rw (← e) at (was s)

pub was_broken : (s : List ℕ) → None ≡ first_of s → complete s ≡ false
was_broken s e = rw (← e) at (was s)

-- an AVP that `parse` accepts is complete too
pub was_accepted : (s : List ℕ) (a : AVP) → answer_of (Ok a) ≡ parsed_of s → (complete s ≡ true) × (a ≡ avp_of s)
unfolding parsed_of complete
was_accepted s a e = let p = passed (avp_refusals s) (avp_of s) a (sym e) in (p.0, sym p.1)

-- ---- the fields of the AVP at the front

pub record Here (s : List ℕ) (a : AVP) : Type 0 where
  pub code_is : a.code ≡ code s
  pub flags_is : a.flags ≡ flags s
  pub length_is : a.length ≡ avp_length s
  pub vendor_is : a.vendor_id ≡ vendor s
  pub size_is : a.size ≡ avp_size s

pub here : (s : List ℕ) (a : AVP) → a ≡ avp_of s → Here s a
unfolding avp_of
here s a e = rw e (record { code_is = refl; flags_is = refl; length_is = refl; vendor_is = refl; size_is = refl })

-- ---- a turn of a loop over `&s[at..]`, once `first_avp` answered `Some(a)` there

pub record Turn (s : List ℕ) (at : ℕ) (a : AVP) : Type 0 where
  pub complete_here : complete (drop at s) ≡ true
  pub is : a ≡ avp_of (drop at s)
  pub fields : Here (drop at s) a
  pub whole : rfc.Whole (drop at s)
  pub fits : at + a.size ≤ length s
  pub some : 8 ≤ a.size
  pub header : head_size a.flags ≤ a.length
  pub padded : a.length ≤ a.size
  pub own_length : length (take a.size (drop at s)) ≡ a.size

pub turn_at : (s : List ℕ) (at : ℕ) (a : AVP) → complete (drop at s) ≡ true → a ≡ avp_of (drop at s) → Turn s at a
turn_at s at a c is =
    let left = drop at s in
    let f = here left a is in
    let w = complete_whole left c in
    let hd = head (flags left) in
    let z = sizes left in
    let l = length-drop at s in
    record {
      complete_here = c;
      is = is;
      fields = f;
      whole = w;
      fits = omega arith;
      some = omega arith;
      header = rw f.flags_is (omega arith);
      padded = omega arith;
      own_length = length-take-le a.size left (omega arith);
    }

pub turn : (s : List ℕ) (at : ℕ) (a : AVP) → at < length s → Some a ≡ first_of (take (length s - at) (drop at s)) → Turn s at a
turn s at a h e = let p = was_whole (drop at s) a (e ∙ ap first_of (rest s at (omega arith))) in turn_at s at a p.0 p.1

-- the same of a loop over what is left of the run
pub first_turn : (s : List ℕ) (a : AVP) → Some a ≡ first_of s → Turn s 0 a
first_turn s a e = let p = was_whole s a e in turn_at s 0 a p.0 p.1

-- in the words of a run, whichever AVPs are entered
module _ (nested : List ℕ → Bool) (s : List ℕ) (at : ℕ) (a : AVP) (t : Turn s at a) where
  pub next_is : drop (at + a.size) s ≡ after (avps_by nested) (drop at s)
  next_is = turn_next (avps_by nested) (sound nested) s at a.size t.complete_here t.fields.size_is

  pub own_is : take a.size (drop at s) ≡ item (avps_by nested) (drop at s)
  own_is = turn_own (avps_by nested) (sound nested) s at a.size t.complete_here t.fields.size_is

-- what is left after the AVP at the front, as `&s[a.size..]` lends it
module _ (s : List ℕ) (a : AVP) (t : Turn s 0 a) where
  abbrev pub left : List ℕ
  left = take (length s - a.size) (drop a.size s)

  pub left_is : (nested : List ℕ → Bool) → left ≡ after (avps_by nested) s
  unfolding after
  left_is nested = rest s a.size (omega (arith, t.fits)) ∙ ap (λ (n : ℕ). drop n s) t.fields.size_is

  pub left_shorter : length left < length s
  left_shorter = rw (rest s a.size (omega (arith, t.fits))) (omega (arith, length-drop a.size s, t.fits, t.some))

pub stuck : (s : List ℕ) (at : ℕ) → at < length s → None ≡ first_of (take (length s - at) (drop at s)) → complete (drop at s) ≡ false
stuck s at h e = was_broken (drop at s) (e ∙ ap first_of (rest s at (omega arith)))
