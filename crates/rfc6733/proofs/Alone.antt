-- A run is its first AVP alone and what follows it: every count of the run is that of the one joined with that of the other. An
-- AVP's own bytes are a run of one, so a reader of AVPs has the same contract as a reader of runs. The records of one AVP are its own
-- and then those of the run that is entered in it: it is no group, a group that tiles, or one that does not.
use Prim.Native.Nat.{ℕ, ◌+◌, ◌≤◌, ◌<◌, max}
use mathlib.Core.Path.{◌≡◌, sym, ap, ◌∙◌}
use mathlib.Core.Bool.{Bool, true, false, cond}
use mathlib.Core.Logic.{inl, inr}
use mathlib.Core.List.{List, [], ◌∷◌, ◌++◌, append-nil}
use native.Mathlib.Omega.{arith}
use lib.ListN.{length, take, drop, drop_of_length-le}
use lib.Seq.{take_all}
use Rattle.octets.specs.Run.{item, after, Tree, done, group, node, tree, tiles, tried, deepest}
use Rattle.octets.proofs.Runs.{parts, tree_none, tree_step}
use Rattle.flags.specs.Flags.{join}
use Rattle.rfc6733.specs.Dictionary.{Dictionary}
use Rattle.rfc6733.specs.Records.{avps, errors, records, record_count, avp_kind, value_of, own_errors, record_of, tiling, group_value}
use Rattle.flags.proofs.Joins.{join_zero}
use Rattle.rfc6733.proofs.Complete.{complete_whole, whole_complete}
use Rattle.refusal.proofs.Tests.{decide}
use Rattle.rfc6733.proofs.Items.{sound, item_same, item_length, item_whole}
use native.Mathlib.Nat.{add-zero}
use lib.Dec.{eqb}
use Rattle.rfc6733.specs.Avp.{code, flags, head_size, vendor, avp_size, payload, complete, Exact}
use Rattle.record.specs.Value.{Value}
use Rattle.record.specs.Kinds.{grouped}
use Rattle.rfc6733.specs.Entered.{value_in, entered}
use Rattle.rfc6733.specs.Groups.{groups}
use Rattle.rfc6733.proofs.Tiling.{tiles_any}

-- the tree of one AVP
unfoldable pub alone : Dictionary → List ℕ → Tree
alone D a = node true ((avps D).nested a) a (tree (avps D) (payload a)) done

pub exact_tree : (D : Dictionary) (a : List ℕ) → Exact a → tree (avps D) a ≡ alone D a
unfolding alone item after
exact_tree D a e =
    let p = parts (avps D) (sound (avps D).nested) a e.whole in
    let own : take (avp_size a) a ≡ a = take_all (avp_size a) a (omega (arith, e.size_is)) in
    let rest : tree (avps D) (drop (avp_size a) a) ≡ done =
    ap (tree (avps D)) (drop_of_length-le a {i = avp_size a} (omega (arith, e.size_is))) ∙ tree_none (avps D)
    in
    tree_step (avps D) (sound (avps D).nested) a (omega arith) ∙ rw (own, rest, e.whole)

pub exact_tiles : (D : Dictionary) (a : List ℕ) → Exact a → tiles (tree (avps D) a) ≡ true
unfolding alone
exact_tiles D a e = rw (exact_tree D a e) (elim (decide ((avps D).nested a)) [ inl f ↦ rw f | inr f ↦ rw f ])

-- the first AVP of a run is exact
pub item_exact : (D : Dictionary) (s : List ℕ) → complete s ≡ true → Exact (item (avps D) s)
item_exact D s e =
    let w = complete_whole s e in
    record {
      whole = whole_complete (item (avps D) s) (item_whole (avps D).nested s w);
      size_is = (item_same (avps D).nested s w).size_is ∙ sym (item_length (avps D).nested s w);
    }

-- ---- how a run is made up

-- t is the AVP a, whose bytes are n, with r after it
pub record Joined (D : Dictionary) (n : ℕ) (t a r : Tree) : Type 0 where
  pub tiles_is : tiles t ≡ tiles r
  pub count_is : record_count t ≡ record_count a + record_count r
  pub tried_is : tried t ≡ tried a + tried r
  pub deepest_is : deepest t ≡ max (deepest a) (deepest r)
  pub errors_are : errors D t ≡ join (errors D a) (errors D r)
  pub records_are : (place depth : ℕ) → records D place depth t ≡ records D place depth a ++ records D (place + n) depth r
  pub groups_are : (parent first : ℕ) → groups parent first t ≡ groups parent first a ++ groups parent (first + record_count a) r

-- the index after a group and its members
groups_joined : (a : List ℕ) (i r : Tree) (parent first : ℕ)
    → groups parent first (group a i r) ≡ groups parent first (group a i done) ++ groups parent (first + record_count (group a i done)) r
groups_joined a i r parent first =
    let inside = cond (tiles i) (groups first (first + 1) i) [] in
    let next : first + record_count (group a i done) ≡ first + 1 + cond (tiles i) (record_count i) 0 = omega arith in
    rw (next, append-nil inside)

joined_node : (D : Dictionary) (b : Bool) (a : List ℕ) (i r : Tree) → Joined D (length a) (node true b a i r) (node true b a i done) r
joined_node D true a i r = search (arith, join_zero, append-nil, groups_joined a i r)
joined_node D false a i r = search (arith, join_zero)

pub joined : (D : Dictionary) (s : List ℕ) → complete s ≡ true
    → Joined D (avp_size s) (tree (avps D) s) (tree (avps D) (item (avps D) s)) (tree (avps D) (after (avps D) s))
unfolding alone
joined D s e =
    let w = complete_whole s e in
    let p = parts (avps D) (sound (avps D).nested) s e in
    let a = item (avps D) s in
    let t : tree (avps D) s ≡ node true ((avps D).nested a) a (tree (avps D) (payload a)) (tree (avps D) (after (avps D) s)) =
    tree_step (avps D) (sound (avps D).nested) s (omega arith) ∙ rw e
    in
    let j = joined_node D ((avps D).nested a) a (tree (avps D) (payload a)) (tree (avps D) (after (avps D) s)) in
    rw (t, exact_tree D a (item_exact D s e)) (rw (item_length (avps D).nested s w) at j)

-- a byte left is a header tried
pub some_tried : (D : Dictionary) (s : List ℕ) → 0 < length s → (1 ≤ deepest (tree (avps D) s)) × (1 ≤ tried (tree (avps D) s))
some_tried D s pos =
    rw (tree_step (avps D) (sound (avps D).nested) s pos)
    (elim (decide (complete s)) [
      | inl e ↦
          elim (decide ((avps D).nested (item (avps D) s))) [ inl f ↦ rw (e, f) (omega arith) | inr f ↦ rw (e, f) (omega arith) ]
      | inr e ↦ rw e (omega arith)
    ])

-- ---- one AVP, made up of its own record and what is entered

pub record Made (D : Dictionary) (a : List ℕ) (t : Tree) (v : Value) (e : Tree) : Type 0 where
  pub records_are : (place depth : ℕ)
      → records D place depth t ≡ record_of place depth a v ∷ records D (place + head_size (flags a)) (depth + 1) e
  pub groups_are : (parent first : ℕ) → groups parent first t ≡ parent ∷ groups first (first + 1) e
  pub errors_are : errors D t ≡ join (own_errors a) v.errors
  pub count_is : record_count t ≡ 1 + record_count e
  pub deeper : 1 + deepest e ≤ deepest t

module _ (D : Dictionary) (a : List ℕ) where
  made_group : (b : Bool) → tiles (tree (avps D) (payload a)) ≡ b
      → Made D a (node true true a (tree (avps D) (payload a)) done) (group_value D (tree (avps D) (payload a)))
      (cond b (tree (avps D) (payload a)) done)
  unfolding group_value
  made_group true e = search (e, arith, join_zero, append-nil, add-zero)
  made_group false e = search (e, arith, join_zero)

  pub made : Made D a (alone D a) (value_in D (code a) (vendor a) (payload a)) (entered D (code a) (vendor a) (payload a))
  unfolding alone value_in entered avp_kind value_of
  made =
      elim (decide (eqb (D.kind (code a) (vendor a)) grouped)) [
        | inl e ↦ rw e (made_group (tiling (payload a)) (tiles_any D (payload a)))
        | inr e ↦ rw e (search (arith, join_zero))
      ]
