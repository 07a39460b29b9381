-- Attributes are items that a run may have: a complete one has two bytes at least, all there, and its value is shorter than it. Its
-- fields are those that stand at the front of what is left of the run, since they lie within its length.
use Prim.Native.Nat.{ℕ, ◌-◌, ◌≤◌}
use mathlib.Core.Path.{◌≡◌, ap, ◌∙◌}
use mathlib.Core.Bool.{true}
use mathlib.Core.List.{List}
use native.Mathlib.Omega.{arith}
use lib.ListN.{length, take, drop, length-take, length-drop}
use lib.Dec.{leb}
use borrow.Author.Tests.{leb-true, le-leb}
use Rattle.octets.specs.Run.{item}
use Rattle.octets.proofs.Lists.{part_of_front}
use Rattle.octets.proofs.Numbers.{be_take}
use Rattle.octets.proofs.Runs.{Sound}
use Rattle.refusal.proofs.Answers.{and-true, true_and}
use Rattle.rfc2865.specs.Attribute.{head_size, code, attribute_length, payload, complete, attributes}

-- the attribute at the front of s is complete, fact by fact
pub record Whole (s : List ℕ) : Type 0 where
  pub least : head_size ≤ attribute_length s
  pub there : attribute_length s ≤ length s

pub complete_whole : (s : List ℕ) → complete s ≡ true → Whole s
unfolding complete
complete_whole s e =
    let both = and-true (leb head_size (attribute_length s)) (leb (attribute_length s) (length s)) e in
    record { least = leb-true _ _ both.0; there = leb-true _ _ both.1 }

pub whole_complete : (s : List ℕ) → Whole s → complete s ≡ true
unfolding complete
whole_complete s w = true_and (le-leb _ _ w.least) (le-leb _ _ w.there)

-- a and s have the same attribute at the front
pub record Same (a s : List ℕ) : Type 0 where
  pub code_is : code a ≡ code s
  pub length_is : attribute_length a ≡ attribute_length s
  pub payload_is : payload a ≡ payload s

-- the first k bytes of what is left have the same attribute, if it is among them
pub same_front : (s : List ℕ) (k : ℕ) → Whole s → attribute_length s ≤ k → Same (take k s) s
unfolding payload
same_front s k w le =
    let l : attribute_length (take k s) ≡ attribute_length s = be_take 1 s k 1 (omega (arith, w.least)) in
    record {
      code_is = be_take 1 s k 0 (omega (arith, w.least));
      length_is = l;
      payload_is = rw l (part_of_front head_size (attribute_length s - head_size) k s (omega (arith, w.least)));
    }

pub payload_length : (s : List ℕ) → Whole s → length (payload s) ≡ attribute_length s - head_size
unfolding payload
payload_length s w =
    length-take (attribute_length s - head_size) (drop head_size s) ∙ omega (arith, length-drop head_size s, w.least, w.there)

-- ---- an item's own bytes

module _ (s : List ℕ) (w : Whole s) where
  pub item_same : Same (item attributes s) s
  unfolding item
  item_same = same_front s (attribute_length s) w (omega arith)

  pub item_length : length (item attributes s) ≡ attribute_length s
  unfolding item
  item_length = length-take (attribute_length s) s ∙ omega (arith, w.there)

  pub item_whole : Whole (item attributes s)
  item_whole = let e = item_same in record { least = omega (arith, e.length_is, w.least); there = omega (arith, e.length_is, item_length) }

pub sound : Sound attributes
sound =
    record {
      some = λ s e. omega (arith, (complete_whole s e).least);
      there = λ s e. (complete_whole s e).there;
      inside =
          λ s e.
          let w = complete_whole s e in
          let p = ap length (item_same s w).payload_is ∙ payload_length s w in
          omega (arith, w.least);
    }
