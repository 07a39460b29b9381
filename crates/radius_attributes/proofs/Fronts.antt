-- What stands at the front of what is left of a run, for loops over it: the second byte there is the length of an attribute, and what
-- is left after a complete one is the run from that length on.
use Prim.Native.Nat.{ℕ, ◌≤◌, ◌<◌}
use mathlib.Core.Path.{◌≡◌, refl, sym, ap}
use mathlib.Core.Bool.{true, false, ◌||◌}
use mathlib.Core.List.{List, [], ◌∷◌}
use mathlib.Core.Logic.{inl, inr}
use native.Mathlib.Omega.{arith}
use lib.Dec.{ltb}
use lib.ListN.{length, get_or, take, drop}
use borrow.Author.Tests.{le-ltb}
use Rattle.octets.specs.Run.{plain, item, after, tree, items}
use Rattle.octets.proofs.Numbers.{one_byte}
use Rattle.octets.proofs.Runs.{false_true, tree_none, tree_broken, tree_plain}
use Rattle.refusal.proofs.Tests.{decide}
use Rattle.rfc2865.specs.Attribute.{attribute_length, complete, attributes}
use Rattle.rfc2865.proofs.Items.{Whole, complete_whole, whole_complete, sound}

pub stated : (s : List ℕ) → get_or s 1 0 ≡ attribute_length s
stated s = sym (one_byte s 1)

-- ---- no attribute is complete at the front

pub stuck : (s : List ℕ) → (Whole s → ⊥) → complete s ≡ false
stuck s none = elim (decide (complete s)) [ inl here ↦ absurd (none (complete_whole s here)) | inr e ↦ e ]

-- by its length
pub stated_wrong : (s : List ℕ) → ltb (get_or s 1 0) 2 || ltb (length s) (get_or s 1 0) ≡ true → complete s ≡ false
stated_wrong s e =
    stuck s
    (λ w.
    let is = stated s in
    false_true (rw (le-ltb (get_or s 1 0) 2 (omega (arith, w.least)), le-ltb (length s) (get_or s 1 0) (omega (arith, w.there))) at e))

-- since one byte is too few
pub too_few : (s : List ℕ) → length s < 2 → complete s ≡ false
too_few s few = stuck s (λ w. omega (arith, w.least, w.there))

-- ---- a turn of a loop, where the first n bytes of s are a complete attribute

pub record Turn (s : List ℕ) (n : ℕ) : Type 0 where
  pub whole : Whole s
  pub length_is : n ≡ attribute_length s
  pub fits : n ≤ length s
  pub some : 2 ≤ n
  pub goes_on : tree attributes s ≡ plain (take n s) (tree attributes (drop n s))

pub turn : (s : List ℕ) → Whole s → Turn s (get_or s 1 0)
unfolding item after
turn s w =
    let is = stated s in
    let here = whole_complete s w in
    record {
      whole = w;
      length_is = is;
      fits = omega (arith, w.there);
      some = omega (arith, w.least);
      goes_on = rw is (tree_plain attributes sound s here refl);
    }

-- where an attribute is left, one stands at the front
pub first : (s : List ℕ) → 0 < length (items (tree attributes s)) → Whole s
first [] some = absurd (let none = ap items (tree_none attributes) in omega (arith, ap length none))
first (b ∷ s) some =
    elim (decide (complete (b ∷ s))) [
      | inl here ↦ complete_whole (b ∷ s) here
      | inr e ↦ absurd (let none = ap items (tree_broken attributes sound (b ∷ s) (omega arith) e) in omega (arith, ap length none))
    ]
