-- Joining two runs of attributes: the law of any items (octets/proofs/Joining) at the second kind of them. The records
-- are the first's and then the second's, as they are where it stands further on: all are at the top level, so no parent
-- moves.
use Prim.Native.Nat.{ℕ, ◌+◌}
use mathlib.Core.Path.{◌≡◌, sym, ap, ◌∙◌}
use mathlib.Core.Bool.{true}
use mathlib.Core.List.{List, ◌++◌}
use native.Mathlib.Nat.{add_assoc, add-zero}
use native.Mathlib.Omega.{arith}
use lib.ListN.{length, length-append}
use Rattle.octets.specs.Run.{Tree, done, broken, plain, group, tree, tiles, tried, covered, items}
use Rattle.octets.proofs.Numbers.{be_front}
use Rattle.octets.proofs.Runs.{false_true, covered_all}
use Rattle.octets.proofs.Joining.{Ahead, followed, tree_joined, joined_tiles, joined_tried}
use Rattle.flags.specs.Flags.{join}
use Rattle.flags.proofs.Joins.{join_assoc, zero_join}
use Rattle.rfc2865.specs.Attribute.{attribute_length, attributes}
use Rattle.rfc2865.specs.Records.{records, errors}
use Rattle.rfc2865.proofs.Items.{Whole, complete_whole, whole_complete, sound}

-- a complete attribute looks at nothing behind it
ahead_length : (s x : List ℕ) → Whole s → attribute_length (s ++ x) ≡ attribute_length s
ahead_length s x w = be_front 1 s x 1 (omega (arith, w.least, w.there))

pub ahead : Ahead attributes
ahead =
    record {
      stays =
          λ s x e.
          let w = complete_whole s e in
          let l = ahead_length s x w in
          whole_complete (s ++ x)
          (record { least = omega (arith, w.least); there = omega (arith, w.there, length-append s x) });
      same_size = λ s x e. ahead_length s x (complete_whole s e);
    }

-- ---- a run that another follows

errors_followed : (t u : Tree) → tiles t ≡ true
    → errors (items (followed t u)) ≡ join (errors (items t)) (errors (items u))
errors_followed done u e = sym (zero_join _)
errors_followed broken u e = absurd (false_true e)
errors_followed (plain a rest) u e = rw (errors_followed rest u e) (sym (join_assoc _ _ _))
errors_followed (group a inner rest) u e = rw (errors_followed rest u e) (sym (join_assoc _ _ _))

records_followed : (place : ℕ) (t u : Tree) → tiles t ≡ true
    → records place (items (followed t u)) ≡ records place (items t) ++ records (place + length (covered t)) (items u)
records_followed place done u e = rw (add-zero place)
records_followed place broken u e = absurd (false_true e)
records_followed place (plain a rest) u e =
    rw (
      length-append a (covered rest),
      ← add_assoc place (length a) (length (covered rest)),
      records_followed (place + length a) rest u e,
    )
records_followed place (group a inner rest) u e =
    rw (
      length-append a (covered rest),
      ← add_assoc place (length a) (length (covered rest)),
      records_followed (place + length a) rest u e,
    )

-- ---- two runs

pub record Joins (place : ℕ) (s x : List ℕ) : Type 0 where
  pub tiles_is : tiles (tree attributes (s ++ x)) ≡ true
  pub tried_is : tried (tree attributes (s ++ x)) ≡ tried (tree attributes s) + tried (tree attributes x)
  pub errors_are : errors (items (tree attributes (s ++ x)))
      ≡ join (errors (items (tree attributes s))) (errors (items (tree attributes x)))
  pub records_are : records place (items (tree attributes (s ++ x)))
      ≡ records place (items (tree attributes s)) ++ records (place + length s) (items (tree attributes x))

pub joining : (place : ℕ) (s x : List ℕ) → tiles (tree attributes s) ≡ true → tiles (tree attributes x) ≡ true
    → Joins place s x
joining place s x first second =
    let t = tree attributes s in
    let u = tree attributes x in
    let own : length (covered t) ≡ length s = ap length (covered_all attributes sound s first) in
    let is = tree_joined attributes sound ahead s x first in
    record {
      tiles_is = ap tiles is ∙ joined_tiles t u first ∙ second;
      tried_is = ap tried is ∙ joined_tried t u first;
      errors_are = ap (λ (y : Tree). errors (items y)) is ∙ errors_followed t u first;
      records_are = ap (λ (y : Tree). records place (items y)) is ∙ rw (← own) (records_followed place t u first);
    }
