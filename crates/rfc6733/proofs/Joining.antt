-- Joining two runs, for every dictionary: the joined run tiles, and it is decoded to the merged fragments. Its tree is
-- the first's with the second's in the place of its end (octets/proofs/Joining), so each count is an induction over the
-- first tree; and the second's records, which stand further on, are shifted. How fragments merge is proofs/Fragments.
use Prim.Native.Nat.{ℕ, ◌+◌, ◌≤◌, max}
use mathlib.Core.Path.{◌≡◌, refl, sym, ap, ap₂, ◌∙◌}
use mathlib.Core.Bool.{Bool, true, false, cond}
use mathlib.Core.List.{List, [], ◌∷◌, ◌++◌, append_assoc, map, map-append}
use native.Mathlib.Nat.{add_assoc, add-zero}
use native.Mathlib.Omega.{arith}
use lib.Dec.{eqb}
use lib.ListN.{length, length-append, length-map}
use borrow.Author.Tests.{ne_eqb}
use Rattle.octets.specs.Run.{Tree, done, broken, plain, group, node, tree, tiles, deepest, covered}
use Rattle.octets.proofs.Numbers.{be_front}
use Rattle.octets.proofs.Runs.{false_true, tree_none, covered_all}
use Rattle.octets.proofs.Joining.{Ahead, followed, tree_first, tree_joined, joined_tiles, joined_tried, joined_deepest}
use Rattle.flags.specs.Flags.{join}
use Rattle.flags.proofs.Joins.{join_assoc, zero_join}
use Rattle.record.specs.Record.{Record}
use Rattle.record.specs.Counts.{Counts}
use Rattle.record.specs.Parents.{top_level, with_parent, parented}
use Rattle.record.specs.Value.{Value}
use Rattle.record.proofs.Parents.{with_append}
use Rattle.rfc6733.specs.Avp as avp
use Rattle.rfc6733.specs.Avp.{flags, avp_length, head_size, data_size, avp_size, payload, Exact}
use Rattle.rfc6733.specs.Dictionary.{Dictionary}
use Rattle.rfc6733.specs.Records.{avps, tiling, errors, value_of, record_of, group_value, records, record_count}
use Rattle.rfc6733.specs.Groups.{groups, member_records}
use Rattle.rfc6733.specs.Decoder.{run_records, run_counts}
use Rattle.rfc6733.specs.Joining.{fragment, shifted, merged, nothing}
use Rattle.rfc6733.proofs.Complete.{Whole, complete_whole, whole_complete}
use Rattle.rfc6733.proofs.Items.{avps_by, sound}
use Rattle.rfc6733.proofs.Tiling.{tiles_any}
use Rattle.rfc6733.proofs.RunRecords.{records_count}
use Rattle.rfc6733.proofs.Fragments.{grouped_either_way}
use Rattle.rfc6733.proofs.Groups.{groups_count, member_group, run_members, run_count}

-- a complete AVP looks at nothing behind it
ahead_size : (s x : List ℕ) → Whole s → avp_size (s ++ x) ≡ avp_size s
unfolding avp_size data_size
ahead_size s x w =
    let f : flags (s ++ x) ≡ flags s = be_front 1 s x 4 (omega (arith, w.eight)) in
    let l : avp_length (s ++ x) ≡ avp_length s = be_front 3 s x 5 (omega (arith, w.eight)) in
    rw (l, f)

pub ahead : (nested : List ℕ → Bool) → Ahead (avps_by nested)
ahead nested =
    record {
      stays =
          λ s x e.
          let w = complete_whole s e in
          let z = ahead_size s x w in
          let f : flags (s ++ x) ≡ flags s = be_front 1 s x 4 (omega (arith, w.eight)) in
          let l : avp_length (s ++ x) ≡ avp_length s = be_front 3 s x 5 (omega (arith, w.eight)) in
          let h = ap head_size f in
          whole_complete (s ++ x) (omega (arith, length-append s x));
      same_size = λ s x e. ahead_size s x (complete_whole s e);
    }

-- the tree of an AVP before other bytes
pub avp_before : (D : Dictionary) (a x : List ℕ) → Exact a
    → tree (avps D) (a ++ x) ≡ node true ((avps D).nested a) a (tree (avps D) (payload a)) (tree (avps D) x)
avp_before D a x e = tree_first (avps D) (sound (avps D).nested) (ahead (avps D).nested) a x e.whole e.size_is

-- ---- each count of a tree that another follows

count_followed : (t u : Tree) → tiles t ≡ true → record_count (followed t u) ≡ record_count t + record_count u
count_followed done u e = omega arith
count_followed broken u e = absurd (false_true e)
count_followed (plain a rest) u e = omega (arith, count_followed rest u e)
count_followed (group a inner rest) u e = omega (arith, count_followed rest u e)

errors_followed : (D : Dictionary) (t u : Tree) → tiles t ≡ true
    → errors D (followed t u) ≡ join (errors D t) (errors D u)
errors_followed D done u e = sym (zero_join _)
errors_followed D broken u e = absurd (false_true e)
errors_followed D (plain a rest) u e = rw (errors_followed D rest u e) (sym (join_assoc _ _ _))
errors_followed D (group a inner rest) u e = rw (errors_followed D rest u e) (sym (join_assoc _ _ _))

records_followed : (D : Dictionary) (place depth : ℕ) (t u : Tree) → tiles t ≡ true
    → records D place depth (followed t u) ≡ records D place depth t ++ records D (place + length (covered t)) depth u
records_followed D place depth done u e = rw (add-zero place)
records_followed D place depth broken u e = absurd (false_true e)
records_followed D place depth (plain a rest) u e =
    rw (
      length-append a (covered rest),
      ← add_assoc place (length a) (length (covered rest)),
      records_followed D (place + length a) depth rest u e,
    )
records_followed D place depth (group a inner rest) u e =
    let members = cond (tiles inner) (records D (place + avp.head_size (avp.flags a)) (depth + 1) inner) [] in
    rw (
      length-append a (covered rest),
      ← add_assoc place (length a) (length (covered rest)),
      records_followed D (place + length a) depth rest u e,
    )
    (ap (λ (rs : List Record). record_of place depth a (group_value D inner) ∷ rs)
    (sym (append_assoc members (records D (place + length a) depth rest) _)))

groups_followed : (parent first : ℕ) (t u : Tree) → tiles t ≡ true
    → groups parent first (followed t u) ≡ groups parent first t ++ groups parent (first + record_count t) u
groups_followed parent first done u e = rw (add-zero first)
groups_followed parent first broken u e = absurd (false_true e)
groups_followed parent first (plain a rest) u e =
    rw (groups_followed parent (first + 1) rest u e, add_assoc first 1 (record_count rest))
groups_followed parent first (group a inner rest) u e =
    let n = cond (tiles inner) (record_count inner) 0 in
    let next : first + 1 + n + record_count rest ≡ first + (1 + n + record_count rest) = omega arith in
    rw (groups_followed parent (first + 1 + n) rest u e, next, append_assoc)

members_followed : (D : Dictionary) (place depth parent first : ℕ) (t u : Tree) → tiles t ≡ true
    → member_records D place depth parent first (followed t u)
    ≡ member_records D place depth parent first t
    ++ member_records D (place + length (covered t)) depth parent (first + record_count t) u
members_followed D place depth parent first t u e =
    rw (groups_followed parent first t u e, records_followed D place depth t u e)
    (with_append (groups parent first t) _ (records D place depth t) _
    (groups_count parent first t ∙ sym (records_count D place depth t)))

-- ---- the second run's records stand further on

module _ (D : Dictionary) (bytes count : ℕ) where
  -- the parent at a depth, so many records further on
  abbrev further : ℕ → ℕ → ℕ
  further depth parent = cond (eqb depth 1) parent (count + parent)

  record_shifted : (place depth parent : ℕ) (a : List ℕ) (v : Value)
      → with_parent (further depth parent) (record_of (bytes + place) depth a v)
      ≡ shifted bytes count (with_parent parent (record_of place depth a v))
  unfolding record_of shifted
  record_shifted place depth parent a v = rw (add_assoc bytes place (avp.head_size (avp.flags a)))

  both_shifted : (b : Bool) (i' i r' r : List Record) → i' ≡ map (shifted bytes count) i
      → r' ≡ map (shifted bytes count) r
      → cond b i' [] ++ r' ≡ map (shifted bytes count) (cond b i [] ++ r)
  both_shifted true i' i r' r e f = ap₂ ◌++◌ e f ∙ sym (map-append (shifted bytes count) i r)
  both_shifted false i' i r' r e f = f

  members_shifted : (place depth parent first : ℕ) (t : Tree) → 1 ≤ depth
      → member_records D (bytes + place) depth (further depth parent) (count + first) t
      ≡ map (shifted bytes count) (member_records D place depth parent first t)
  members_shifted place depth parent first done d = refl
  members_shifted place depth parent first broken d = refl
  members_shifted place depth parent first (plain a rest) d =
      ap₂ ◌∷◌ (record_shifted place depth parent a (value_of D a))
      (rw (add_assoc bytes place (length a), add_assoc count first 1)
      (members_shifted (place + length a) depth parent (first + 1) rest d))
  members_shifted place depth parent first (group a inner rest) d =
      let h = avp.head_size (avp.flags a) in
      let n = cond (tiles inner) (record_count inner) 0 in
      let next : count + first + 1 + n ≡ count + (first + 1 + n) = omega arith in
      let deeper : further (depth + 1) first ≡ count + first = rw (ne_eqb (depth + 1) 1 (λ z. omega arith)) in
      let i : member_records D (bytes + (place + h)) (depth + 1) (count + first) (count + (first + 1)) inner
      ≡ map (shifted bytes count) (member_records D (place + h) (depth + 1) first (first + 1) inner) =
      rw deeper at (members_shifted (place + h) (depth + 1) first (first + 1) inner (omega arith)) in
      let r : member_records D (bytes + place + length a) depth (further depth parent) (count + first + 1 + n) rest
      ≡ map (shifted bytes count) (member_records D (place + length a) depth parent (first + 1 + n) rest) =
      rw (add_assoc bytes place (length a), next)
      (members_shifted (place + length a) depth parent (first + 1 + n) rest d)
      in
      let inside : member_records D (bytes + place + h) (depth + 1) (count + first) (count + first + 1) inner
      ≡ map (shifted bytes count) (member_records D (place + h) (depth + 1) first (first + 1) inner) =
      rw (add_assoc bytes place h, add_assoc count first 1) i
      in
      member_group D (bytes + place) depth (further depth parent) (count + first) a inner rest
      ∙ ap₂ ◌∷◌ (record_shifted place depth parent a (group_value D inner)) (both_shifted (tiles inner) _ _ _ _ inside r)
      ∙ sym (ap (map (shifted bytes count)) (member_group D place depth parent first a inner rest))

-- ---- two runs

module _ (D : Dictionary) (s x : List ℕ) (first : tiling s ≡ true) where
  abbrev t : Tree
  t = tree (avps D) s

  abbrev u : Tree
  u = tree (avps D) x

  tiled : tiles t ≡ true
  tiled = tiles_any D s ∙ first

  tree_is : tree (avps D) (s ++ x) ≡ followed t u
  tree_is = tree_joined (avps D) (sound (avps D).nested) (ahead (avps D).nested) s x tiled

  run_joined : (place : ℕ) → run_records D place (s ++ x)
      ≡ run_records D place s ++ map (shifted (length s) (length (run_records D place s))) (run_records D place x)
  run_joined place =
      let n = length s in
      let k = record_count t in
      let own : length (covered t) ≡ n = ap length (covered_all (avps D) (sound (avps D).nested) s tiled) in
      let there : place + length (covered t) ≡ n + place = omega arith in
      let next : 0 + k ≡ k + 0 = omega arith in
      let second : member_records D (place + length (covered t)) 1 top_level (0 + k) u
      ≡ map (shifted n k) (member_records D place 1 top_level 0 u) =
      rw (there, next) (members_shifted D n k place 1 top_level 0 u (omega arith))
      in
      run_members D place (s ++ x)
      ∙ ap (member_records D place 1 top_level 0) tree_is
      ∙ members_followed D place 1 top_level 0 t u tiled
      ∙ ap₂ ◌++◌ (sym (run_members D place s))
      (second ∙ ap₂ (λ (m : ℕ) (rs : List Record). map (shifted n m) rs) (sym (run_count D place s))
      (sym (run_members D place x)))

  counts_joined : (place : ℕ) → run_counts D place (s ++ x) ≡ (merged (fragment D place s) (fragment D place x)).counts
  unfolding run_counts
  counts_joined place =
      let all : length (run_records D place (s ++ x)) ≡ length (run_records D place s) + length (run_records D place x) =
      ap length (run_joined place) ∙ length-append (run_records D place s) _
      ∙ ap (λ (m : ℕ). length (run_records D place s) + m) (length-map (run_records D place x) _)
      in
      rw (all, tree_is, errors_followed D t u tiled, joined_tried t u tiled, length-append s x)

-- the joined run tiles, and keeps every depth limit that both keep; and it is decoded to the merged fragments
pub record Joins (D : Dictionary) (place : ℕ) (s x : List ℕ) : Type 0 where
  pub tiles_is : tiling (s ++ x) ≡ true
  pub deepest_is : deepest (tree (avps D) (s ++ x)) ≡ max (deepest (tree (avps D) s)) (deepest (tree (avps D) x))
  pub fragment_is : fragment D place (s ++ x) ≡ merged (fragment D place s) (fragment D place x)

pub joining : (D : Dictionary) (place : ℕ) (s x : List ℕ) → tiling s ≡ true → tiling x ≡ true → Joins D place s x
unfolding run_counts
joining D place s x first second =
    let t = tree (avps D) s in
    let u = tree (avps D) x in
    let is = tree_is D s x first in
    let all = tiled D s x first in
    record {
      tiles_is = sym (tiles_any D (s ++ x)) ∙ ap tiles is ∙ joined_tiles t u all ∙ tiles_any D x ∙ second;
      deepest_is = ap deepest is ∙ joined_deepest t u all;
      fragment_is =
          ap₂ (λ (c : Counts) (rs : List Record). record { counts = c; records = rs }) (counts_joined D s x first place)
          (run_joined D s x first place);
    }

pub empty_run : (D : Dictionary) (place : ℕ) → fragment D place [] ≡ nothing
unfolding run_counts run_records parented
empty_run D place = rw tree_none

-- three runs, grouped either way
pub three_runs : (D : Dictionary) (place : ℕ) (s x y : List ℕ) → tiling s ≡ true → tiling x ≡ true → tiling y ≡ true
    → let a = fragment D place s in
    let b = fragment D place x in
    let c = fragment D place y in
    (fragment D place (s ++ (x ++ y)) ≡ merged a (merged b c))
    × (fragment D place (s ++ (x ++ y)) ≡ merged (merged a b) c)
three_runs D place s x y first second third =
    let j = joining D place x y second third in
    let all =
    (joining D place s (x ++ y) first j.tiles_is).fragment_is ∙ ap (merged (fragment D place s)) j.fragment_is in
    (all, all ∙ sym (grouped_either_way (fragment D place s) (fragment D place x) (fragment D place y)))
