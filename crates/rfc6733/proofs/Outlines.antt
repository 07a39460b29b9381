-- Laws of outlines: those of a run step by step; that they do not depend on which groups are entered; and that they are the outlines of the
-- records of the run's own depth. A group's members are deeper, so none of them is among those.
use Prim.Native.Nat.{ℕ, ◌+◌, ◌<◌}
use mathlib.Core.Path.{◌≡◌, refl, ap}
use mathlib.Core.Bool.{Bool, true, false, cond}
use mathlib.Core.Logic.{inl, inr}
use mathlib.Core.List.{List, [], ◌∷◌, ◌++◌, map}
use native.Mathlib.Omega.{arith}
use lib.ListN.{length}
use lib.Dec.{eqb}
use borrow.Author.Tests.{eq-eqb, ne_eqb}
use Rattle.octets.specs.Run.{item, after, Tree, done, broken, plain, group, node, tree, tiles}
use Rattle.octets.proofs.Runs.{tree_none, tree_step, tree_broken, tree_plain, by_run}
use Rattle.refusal.proofs.Tests.{decide}
use Rattle.record.specs.Record.{Record}
use Rattle.record.specs.Outline.{outline_of}
use Rattle.record.specs.Table.{of_depth}
use Rattle.rfc6733.specs.Avp as avp
use Rattle.rfc6733.specs.Avp.{complete, avp_size}
use Rattle.record.specs.Value.{Value}
use Rattle.rfc6733.specs.Dictionary.{Dictionary}
use Rattle.rfc6733.specs.Records.{avps, unentered, value_of, group_value, record_of, records}
use Rattle.rfc6733.specs.Search.{outline, outlines}
use Rattle.rfc6733.proofs.Complete.{complete_whole}
use Rattle.rfc6733.proofs.Items.{sound, item_length}

-- ---- step by step

pub outlines_none : (place : ℕ) → outlines place (tree unentered []) ≡ []
outlines_none place = ap (outlines place) (tree_none unentered)

module _ (place : ℕ) (s : List ℕ) where
  pub outlines_broken : 0 < length s → complete s ≡ false → outlines place (tree unentered s) ≡ []
  outlines_broken pos e = ap (outlines place) (tree_broken unentered (sound (λ a. false)) s pos e)

  pub outlines_more : complete s ≡ true
      → outlines place (tree unentered s) ≡ outline place (item unentered s) ∷ outlines (place + avp_size s) (tree unentered (after unentered s))
  outlines_more e =
      rw (tree_plain unentered (sound (λ a. false)) s e refl, item_length (λ a. false) s (complete_whole s e))

-- ---- whatever is entered

outlines_node : (place : ℕ) (c b : Bool) (a : List ℕ) (i r : Tree)
    → outlines place (node c b a i r) ≡ cond c (outline place a ∷ outlines (place + length a) r) []
outlines_node place false b a i r = refl
outlines_node place true true a i r = refl
outlines_node place true false a i r = refl

pub outlines_any : (D : Dictionary) (s : List ℕ) (place : ℕ) → outlines place (tree (avps D) s) ≡ outlines place (tree unentered s)
unfolding item after
outlines_any D =
    by_run (avps D) (sound (avps D).nested) (λ (s : List ℕ). (place : ℕ) → outlines place (tree (avps D) s) ≡ outlines place (tree unentered s))
    (λ place. rw (tree_none (avps D), tree_none unentered))
    (λ s pos h place.
    rw (tree_step (avps D) (sound (avps D).nested) s pos, tree_step unentered (sound (λ a. false)) s pos)
    (elim (decide (complete s)) [ inl e ↦ simp (e, outlines_node, (h e).2) | inr e ↦ rw e ]))

-- ---- and the records

record_outline : (place depth : ℕ) (a : List ℕ) (v : Value) → outline_of (record_of place depth a v) ≡ outline place a
unfolding record_of outline
record_outline place depth a v = refl

-- a record of the depth, and one that is deeper
own_depth : (place depth : ℕ) (a : List ℕ) (v : Value) → eqb (record_of place depth a v).depth depth ≡ true
unfolding record_of
own_depth place depth a v = eq-eqb depth depth refl

other_depth : (place d depth : ℕ) (a : List ℕ) (v : Value) → depth < d → eqb (record_of place d a v).depth depth ≡ false
unfolding record_of
other_depth place d depth a v less = ne_eqb d depth (λ e. omega arith)

of_depth_append : (d : ℕ) (rs ts : List Record) → of_depth d (rs ++ ts) ≡ of_depth d rs ++ of_depth d ts
of_depth_append d [] ts = refl
of_depth_append d (r ∷ rs) ts =
    elim (decide (eqb r.depth d)) [ inl e ↦ rw (e, of_depth_append d rs ts) | inr e ↦ rw (e, of_depth_append d rs ts) ]

module _ (D : Dictionary) where
  deeper : (place d depth : ℕ) (t : Tree) → depth < d → of_depth depth (records D place d t) ≡ []
  deeper place d depth done less = refl
  deeper place d depth broken less = refl
  deeper place d depth (plain a rest) less =
      rw (other_depth place d depth a (value_of D a) less) (deeper (place + length a) d depth rest less)
  deeper place d depth (group a inner rest) less =
      let members = records D (place + avp.head_size (avp.flags a)) (d + 1) inner in
      let more = records D (place + length a) d rest in
      let i = deeper (place + avp.head_size (avp.flags a)) (d + 1) depth inner (omega arith) in
      let r = deeper (place + length a) d depth rest less in
      rw (other_depth place d depth a (group_value D inner) less)
      (elim (decide (tiles inner)) [ inl e ↦ rw (e, of_depth_append depth members more, i, r) | inr e ↦ rw (e, r) ])

  pub outlines_of_records : (place depth : ℕ) (t : Tree) → outlines place t ≡ map outline_of (of_depth depth (records D place depth t))
  outlines_of_records place depth done = refl
  outlines_of_records place depth broken = refl
  outlines_of_records place depth (plain a rest) =
      rw (own_depth place depth a (value_of D a), record_outline place depth a (value_of D a), outlines_of_records (place + length a) depth rest)
  outlines_of_records place depth (group a inner rest) =
      let members = records D (place + avp.head_size (avp.flags a)) (depth + 1) inner in
      let more = records D (place + length a) depth rest in
      let i = deeper (place + avp.head_size (avp.flags a)) (depth + 1) depth inner (omega arith) in
      let r = outlines_of_records (place + length a) depth rest in
      rw (own_depth place depth a (group_value D inner), record_outline place depth a (group_value D inner), r)
      (elim (decide (tiles inner)) [ inl e ↦ rw (e, of_depth_append depth members more, i) | inr e ↦ rw e ])
