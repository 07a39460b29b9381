-- The cycle of `count_group` and `count_level` meets its contracts: an AVP is one header and, where it is a group, its payload's run with
-- one level less.
use Prim.Native.Nat.{ℕ, ◌+◌, ◌-◌, ◌^◌, ◌<◌}
use mathlib.Core.Path.{◌≡◌, sym, ap₂, ◌∙◌}
use mathlib.Core.Bool.{true, cond}
use mathlib.Core.List.{List}
use native.Mathlib.Omega.{arith}
use lib.ListN.{length, drop_of_length-le}
use Rattle.octets.specs.Run.{item, after, Tree, done, group, broken, tree, tried}
use Rattle.octets.proofs.Runs.{tree_none, tree_broken}
use Rattle.avp.specs.declared.AVP.{AVP}
use Rattle.rfc6733.specs.Avp.{payload, complete, head_size}
use Rattle.rfc6733.specs.Records.{avp_kind, avps, record_count}
use Rattle.record.specs.Kinds.{grouped}
use Rattle.rfc6733.specs.Dictionary.{Dictionary}
use Rattle.rfc6733.proofs.Items.{sound}
use Rattle.rfc6733.proofs.Alone.{some_tried}
use Rattle.attribute.specs.ByTable.{dictionary_of}
use Rattle.front.specs.Front.{avp_of}
use Rattle.count.specs.Counts.{level_of}
use Rattle.std.specs.Prelude.{Some}
use Rattle.count.specs.declared.Level.{Level}
use Rattle.front.proofs.Fronts.{Turn, first_turn, was_broken, here, left_is, left_shorter}
use Rattle.count.proofs.Levels.{was_deep, was_counts, within, Passed, leaf_passed, group_passed, then_deep, group_deep, then_ends, leaf_first, group_first, some_recorded}
use Rattle.count.proofs.Lent.{Inside, inside}
use Rattle.count.proofs.+count_group_count_level.Goals as goal
use Rattle.count.proofs.+count_group_count_level.Goals.{count_level-then-kind-eq-GROUPED+in_ok-members, count_level-then-members, count_level-else-members, count_level-else-kind-eq-GROUPED, count_level-In-Some}

-- ---- an AVP is at the front of what is left, and is passed

module _ (D : Dictionary) (s : List ℕ) (a : AVP) (f : Turn s 0 a) (k : ℕ) (told : k ≡ D.kind a.code a.vendor_id) where
  -- its kind is the dictionary's
  kind_is : k ≡ avp_kind D s
  unfolding avp_kind
  kind_is = told ∙ ap₂ D.kind f.fields.code_is f.fields.vendor_is

  group_there : k ≡ grouped → tree (avps D) s ≡ group (item (avps D) s) (tree (avps D) (payload s)) (tree (avps D) (after (avps D) s))
  group_there is = group_first D s f.complete_here (sym kind_is ∙ is)

  module _ {left n j : ℕ} {t : Tree} (p : Passed left t (tree (avps D) s) n j) (room : 0 < left) where
    -- it is passed: a leaf alone
    past_leaf : (k ≡ grouped → ⊥) → Passed left t (tree (avps D) (after (avps D) s)) (n + 1) (j + 1)
    past_leaf other = leaf_passed p (leaf_first D s f.complete_here (λ e. other (kind_is ∙ e))) room

    -- and a group with its members, whose records are counted where it tiles
    past_group : (l : Level) → k ≡ grouped → Some l ≡ level_of (left - 1) (tree (avps D) (payload s))
        → Passed left t (tree (avps D) (after (avps D) s)) (n + 1 + cond l.tiles l.records 0) (j + 1 + l.tried)
    past_group l is e = group_passed p (group_there is) room (was_counts _ _ l e)

-- no sum is past the length
fits : (D : Dictionary) (s : List ℕ) {left n j : ℕ} {r : Tree} → Passed left (tree (avps D) s) r n j → length s < 2 ^ 63
    → (n + record_count r < 2 ^ 64) × (j + tried r < 2 ^ 64)
fits D s p short = omega (arith, within D s, p.records_is, p.tried_is)

-- ---- the goals of `count_group`

lent_inside : (s : List ℕ) (a : AVP) (from : ℕ) → (a ≡ avp_of s) × (complete s ≡ true) → from ≡ head_size a.flags → Inside s from a.length
lent_inside s a from given is = inside s a from given.1 (here s a given.0) is

pub count_group-slice_bounds-count_level-count : goal.count_group-slice_bounds-count_level-count
count_group-slice_bounds-count_level-count t c = omega (arith, lent_inside _ _ _ c.requires c.header_size-from.ensures)

pub count_group-slice_bounds-count_level-start : goal.count_group-slice_bounds-count_level-start
count_group-slice_bounds-count_level-start t c = omega (arith, lent_inside _ _ _ c.requires c.header_size-from.ensures)

pub count_group-slice_bounds-count_level-end : goal.count_group-slice_bounds-count_level-end
count_group-slice_bounds-count_level-end t c = omega (arith, lent_inside _ _ _ c.requires c.header_size-from.ensures)

pub count_group-returns : goal.count_group-returns
count_group-returns t c = rw (lent_inside _ _ _ c.requires c.header_size-from.ensures).is at c.count_level.ensures

-- ---- the goals of `count_level`

-- an AVP was found
found : (t : ℕ) (c : count_level-In-Some t) → Turn c.loop-rest.rest.now 0 c.in-Some.a
found t c = first_turn c.loop-rest.rest.now c.in-Some.a c.in-Some.ensures

pub count_level-returns-then-left-eq0 : goal.count_level-returns-then-left-eq0
count_level-returns-then-left-eq0 t c =
    let d = some_tried (dictionary_of c.args.d) c.loop-rest.rest.now (omega arith) in
    then_deep c.loop-rest.invariant (omega arith)

pub count_level-overflow_add-tried : goal.count_level-overflow_add-tried
count_level-overflow_add-tried t c =
    let D = dictionary_of c.args.d in
    let r = some_tried D c.loop-rest.rest.now (omega arith) in
    omega (arith, fits D c.args.s.now c.loop-rest.invariant (omega arith))

pub count_level-returns-in_default : goal.count_level-returns-in_default
count_level-returns-in_default t c =
    let D = dictionary_of c.args.d in
    let none = tree_broken (avps D) (sound _) c.loop-rest.rest.now (omega arith) (was_broken c.loop-rest.rest.now c.in_default.ensures) in
    let d = some_tried D c.loop-rest.rest.now (omega arith) in
    then_ends c.loop-rest.invariant broken none (omega arith) (omega arith) (omega arith)

pub count_level-overflow_add-records : goal.count_level-overflow_add-records
count_level-overflow_add-records t c =
    let D = dictionary_of c.args.d in
    let f = found t (goal.at.count_level-overflow_add-records t c).In-Some in
    let r = some_recorded D c.loop-rest.rest.now f.complete_here in
    omega (arith, fits D c.args.s.now c.loop-rest.invariant (omega arith))

pub count_level-count_group-requires : goal.count_level-count_group-requires
count_level-count_group-requires t c =
    let f = found t (goal.at.count_level-count_group-requires t c).In-Some in
    (omega arith, (f.is, f.complete_here))

pub count_level-returns-in_err-members : goal.count_level-returns-in_err-members
count_level-returns-in_err-members t c =
    let D = dictionary_of c.args.d in
    let f = found t (goal.at.count_level-returns-in_err-members t c).In-Some in
    c.from_residual.ensures
    ∙ group_deep c.loop-rest.invariant (group_there D _ _ f _ c.kind.ensures c.if-kind-eq-GROUPED.true) (was_deep _ _ c.in_err-members.ensures)

pub count_level-overflow_add-records-then-members : goal.count_level-overflow_add-records-then-members
count_level-overflow_add-records-then-members t c =
    let D = dictionary_of c.args.d in
    let f = found t (goal.at.count_level-overflow_add-records-then-members t c).In-Some in
    let members = c.in_ok-members.members in
    let p = past_group D _ _ f _ c.kind.ensures c.loop-rest.invariant (omega arith) members c.if-kind-eq-GROUPED.true c.in_ok-members.ensures in
    let all : cond members.tiles members.records 0 ≡ members.records = rw c.if-members.true in
    omega (arith, fits D c.args.s.now p (omega arith))

pub count_level-overflow_add-tried-then-kind-eq-GROUPED : goal.count_level-overflow_add-tried-then-kind-eq-GROUPED
count_level-overflow_add-tried-then-kind-eq-GROUPED t c =
    let D = dictionary_of c.args.d in
    let f = found t (goal.at.count_level-overflow_add-tried-then-kind-eq-GROUPED t c).In-Some in
    let p = past_group D _ _ f _ c.kind.ensures c.loop-rest.invariant (omega arith) c.in_ok-members.members c.if-kind-eq-GROUPED.true c.in_ok-members.ensures in
    omega (arith, fits D c.args.s.now p (omega arith))

pub count_level-slice_bounds-rest-count : goal.count_level-slice_bounds-rest-count
count_level-slice_bounds-rest-count t c =
    omega (arith, found t (goal.at.count_level-slice_bounds-rest-count t c).In-Some)

pub count_level-slice_bounds-rest-start : goal.count_level-slice_bounds-rest-start
count_level-slice_bounds-rest-start t c =
    omega (arith, found t (goal.at.count_level-slice_bounds-rest-start t c).In-Some)

pub count_level-loop-rest-smaller : goal.count_level-loop-rest-smaller
count_level-loop-rest-smaller t c =
    let D = dictionary_of c.args.d in
    left_shorter c.loop-rest.rest.now c.in-Some.a (found t (goal.at.count_level-loop-rest-smaller t c).In-Some)

pub count_level-loop-rest-preserved : goal.count_level-loop-rest-preserved
count_level-loop-rest-preserved t c =
    let D = dictionary_of c.args.d in
    let f = found t (goal.at.count_level-loop-rest-preserved t c).In-Some in
    rw (left_is c.loop-rest.rest.now c.in-Some.a f (avps D).nested)
    (elim c.if-kind-eq-GROUPED.branch [
      | count_level-then-kind-eq-GROUPED+in_ok-members w ↦
          let members = w.in_ok-members.members in
          let n : w.if-members.records ≡ c.loop-rest.records + 1 + cond members.tiles members.records 0 =
          elim w.if-members.branch [
            | count_level-then-members v ↦ v.records-is ∙ rw v.if-members.true
            | count_level-else-members v ↦ v.records-is ∙ rw v.if-members.false (omega arith)
          ]
          in
          rw (w.records-is, w.tried-is, n)
          (past_group D _ _ f _ c.kind.ensures c.loop-rest.invariant (omega arith) members w.if-kind-eq-GROUPED.true w.in_ok-members.ensures)
      | count_level-else-kind-eq-GROUPED w ↦
          rw (w.records-is, w.tried-is) (past_leaf D _ _ f _ c.kind.ensures c.loop-rest.invariant (omega arith) w.if-kind-eq-GROUPED.false)
    ])

pub count_level-returns : goal.count_level-returns
count_level-returns t c =
    then_ends c.loop-rest.invariant done (rw (drop_of_length-le c.loop-rest.rest.now c.loop-rest-test.false) (tree_none _)) (omega arith) (omega arith) (omega arith)
