-- The depths of a run's records tell for each member the index of its group. Walking back from a member, the records of the AVPs before it in
-- its group are as deep or deeper, so the first that is one depth less is the group's own. By induction over the run, after any earlier
-- records.
use Prim.Native.Nat.{ℕ, ◌+◌, ◌-◌, ◌^◌, ◌≤◌, ◌<◌}
use mathlib.Core.Path.{◌≡◌, refl, sym, ap, ◌∙◌}
use mathlib.Core.Bool.{cond}
use mathlib.Core.Logic.{inl, inr}
use mathlib.Core.List.{List, [], ◌∷◌, ◌++◌}
use native.Mathlib.Omega.{arith}
use lib.ListN.{length, length-append}
use borrow.Author.Tests.{eq-eqb, ne_eqb}
use Rattle.octets.specs.Run.{Tree, done, broken, plain, group, tree, tiles}
use Rattle.refusal.proofs.Tests.{decide}
use Rattle.record.specs.Record.{Record}
use Rattle.record.specs.Value.{Value}
use Rattle.record.specs.Table.{Every}
use Rattle.record.specs.Parents.{top_level, last_of, parent_at, parents, depths, own_parents, told_parents, with_parent, with_parents, parented}
use Rattle.record.proofs.Tables.{every_both}
use Rattle.record.proofs.Parents.{with_count, with_own, with_append, ParentsFit, parents_count, parented_told}
use Rattle.rfc6733.specs.Avp as avp
use Rattle.rfc6733.specs.Dictionary.{Dictionary}
use Rattle.rfc6733.specs.Records.{avps, group_value, record_of, records, record_count}
use Rattle.rfc6733.specs.Decoder.{run_records}
use Rattle.rfc6733.specs.Groups.{groups, member_records}
use Rattle.rfc6733.proofs.RunRecords.{records_count}
use Rattle.rfc6733.proofs.Alone.{Joined, Made}

-- ---- how many

pub groups_count : (parent first : ℕ) (t : Tree) → length (groups parent first t) ≡ record_count t
groups_count parent first done = refl
groups_count parent first broken = refl
groups_count parent first (plain a rest) = let r = groups_count parent (first + 1) rest in omega arith
groups_count parent first (group a inner rest) =
    let i = groups_count first (first + 1) inner in
    elim (decide (tiles inner)) [
      | inl e ↦
          let r = groups_count parent (first + 1 + record_count inner) rest in
          rw e (omega (arith, length-append (groups first (first + 1) inner) (groups parent (first + 1 + record_count inner) rest)))
      | inr e ↦ let r = groups_count parent (first + 1 + 0) rest in rw e (omega arith)
    ]

pub member_count_lem : (D : Dictionary) (place depth parent first : ℕ) (t : Tree) → length (member_records D place depth parent first t) ≡ record_count t
member_count_lem D place depth parent first t =
    with_count (groups parent first t) (records D place depth t) ∙ records_count D place depth t

-- ---- as a run is made up

pub member_joined : {D : Dictionary} {n : ℕ} {t a r : Tree} → Joined D n t a r → (place depth parent first : ℕ)
    → member_records D place depth parent first t
    ≡ member_records D place depth parent first a ++ member_records D (place + n) depth parent (first + record_count a) r
member_joined {D} {a = a} j place depth parent first =
    rw (j.groups_are parent first, j.records_are place depth)
    (with_append (groups parent first a) _ (records D place depth a) _ (groups_count parent first a ∙ sym (records_count D place depth a)))

pub member_made : {D : Dictionary} {a : List ℕ} {t e : Tree} {v : Value} → Made D a t v e → (place depth parent first : ℕ)
    → member_records D place depth parent first t
    ≡ with_parent parent (record_of place depth a v) ∷ member_records D (place + avp.head_size (avp.flags a)) (depth + 1) first (first + 1) e
member_made m place depth parent first = rw (m.groups_are parent first, m.records_are place depth)

-- a group's record, its members' where it tiles, and those of what follows it
pub member_group : (D : Dictionary) (place depth parent first : ℕ) (a : List ℕ) (inner rest : Tree)
    → member_records D place depth parent first (group a inner rest)
    ≡ with_parent parent (record_of place depth a (group_value D inner))
    ∷ (cond (tiles inner) (member_records D (place + avp.head_size (avp.flags a)) (depth + 1) first (first + 1) inner) []
    ++ member_records D (place + length a) depth parent (first + 1 + cond (tiles inner) (record_count inner) 0) rest)
member_group D place depth parent first a inner rest =
    let p = place + avp.head_size (avp.flags a) in
    let same = groups_count first (first + 1) inner ∙ sym (records_count D p (depth + 1) inner) in
    elim (decide (tiles inner)) [
      | inl e ↦ rw (e, with_append (groups first (first + 1) inner) _ (records D p (depth + 1) inner) _ same)
      | inr e ↦ rw e
    ]

-- ---- walking back

-- the depths of records, before earlier ones and the last of them first
abbrev after : List Record → List ℕ → List ℕ
after [] earlier = earlier
after (r ∷ rs) earlier = after rs (r.depth ∷ earlier)

after_length : (rs : List Record) (earlier : List ℕ) → length (after rs earlier) ≡ length rs + length earlier
after_length [] earlier = omega arith
after_length (r ∷ rs) earlier = let h = after_length rs (r.depth ∷ earlier) in omega arith

parents_append : (earlier : List ℕ) (rs ts : List Record)
    → parents earlier (depths (rs ++ ts)) ≡ parents earlier (depths rs) ++ parents (after rs earlier) (depths ts)
parents_append earlier [] ts = refl
parents_append earlier (r ∷ rs) ts = rw (parents_append (r.depth ∷ earlier) rs ts)

-- records of depth d or deeper
abbrev Deep : ℕ → List Record → Type 0
Deep d = Every (λ r. d ≤ r.depth)

-- they hide nothing that is less deep
last_stays : (d : ℕ) (rs : List Record) (earlier : List ℕ) → Deep (d + 1) rs → last_of d (after rs earlier) ≡ last_of d earlier
last_stays d [] earlier h = refl
last_stays d (r ∷ rs) earlier h =
    last_stays d rs (r.depth ∷ earlier) h.1 ∙ rw (ne_eqb r.depth d (λ e. omega (arith, h.0)))

parent_stays : (d : ℕ) (rs : List Record) (earlier : List ℕ) → 1 ≤ d → Deep d rs → parent_at (after rs earlier) d ≡ parent_at earlier d
parent_stays d rs earlier some h =
    let e : d - 1 + 1 ≡ d = omega arith in
    rw (last_stays (d - 1) rs earlier (rw e h))

deep_up : (d : ℕ) (rs : List Record) → Deep (d + 1) rs → Deep d rs
deep_up d [] h = tt
deep_up d (r ∷ rs) h = (omega (arith, h.0), deep_up d rs h.1)

run_deep : (D : Dictionary) (place depth : ℕ) (t : Tree) → Deep depth (records D place depth t)
unfolding record_of
run_deep D place depth done = tt
run_deep D place depth broken = tt
run_deep D place depth (plain a rest) = (omega arith, run_deep D (place + length a) depth rest)
run_deep D place depth (group a inner rest) =
    let members = records D (place + avp.head_size (avp.flags a)) (depth + 1) inner in
    let i = deep_up depth members (run_deep D (place + avp.head_size (avp.flags a)) (depth + 1) inner) in
    let r = run_deep D (place + length a) depth rest in
    (omega arith, elim (decide (tiles inner)) [ inl e ↦ rw e (every_both _ members _ i r) | inr e ↦ rw e r ])

-- ---- the parents are the groups

-- after earlier depths, where the parent of depth `depth` is `parent` and the next record has the index `first`
record Before (earlier : List ℕ) (depth parent first : ℕ) : Type 0 where
  some : 1 ≤ depth
  parent_is : parent_at earlier depth ≡ parent
  first_is : length earlier ≡ first

-- past a record of that depth; inside it, where it is a group; and past its members
past_own : {earlier : List ℕ} {depth parent first : ℕ} → Before earlier depth parent first → Before (depth ∷ earlier) depth parent (first + 1)
past_own {depth = depth} b =
    record { some = b.some; parent_is = rw (ne_eqb depth (depth - 1) (λ e. omega (arith, b.some))) b.parent_is; first_is = omega (arith, b.first_is) }

inside_own : {earlier : List ℕ} {depth parent first : ℕ} → Before earlier depth parent first → Before (depth ∷ earlier) (depth + 1) first (first + 1)
inside_own {depth = depth} b =
    let e : depth + 1 - 1 ≡ depth = omega arith in
    record {
      some = omega arith;
      parent_is = rw (ne_eqb (depth + 1) 1 (λ z. omega (arith, b.some)), e, eq-eqb depth depth refl) b.first_is;
      first_is = omega (arith, b.first_is);
    }

past_all : {earlier : List ℕ} {depth parent first n : ℕ} (rs : List Record) → Deep depth rs → length rs ≡ n → Before earlier depth parent first
    → Before (after rs earlier) depth parent (first + n)
past_all {earlier} {depth} rs deep count b =
    record {
      some = b.some;
      parent_is = parent_stays depth rs earlier b.some deep ∙ b.parent_is;
      first_is = omega (arith, after_length rs earlier, b.first_is);
    }

parents_are : (D : Dictionary) (place depth parent first : ℕ) (earlier : List ℕ) (t : Tree) → Before earlier depth parent first
    → parents earlier (depths (records D place depth t)) ≡ groups parent first t
unfolding record_of
parents_are D place depth parent first earlier done b = refl
parents_are D place depth parent first earlier broken b = refl
parents_are D place depth parent first earlier (plain a rest) b =
    rw (b.parent_is, parents_are D (place + length a) depth parent (first + 1) (depth ∷ earlier) rest (past_own b))
parents_are D place depth parent first earlier (group a inner rest) b =
    let p = place + avp.head_size (avp.flags a) in
    let members = records D p (depth + 1) inner in
    let follows = records D (place + length a) depth rest in
    let i = parents_are D p (depth + 1) first (first + 1) (depth ∷ earlier) inner (inside_own b) in
    elim (decide (tiles inner)) [
      | inl e ↦
          let past = past_all members (deep_up depth members (run_deep D p (depth + 1) inner)) (records_count D p (depth + 1) inner) (past_own b) in
          let r = parents_are D (place + length a) depth parent (first + 1 + record_count inner) (after members (depth ∷ earlier)) rest past in
          rw (e, b.parent_is, parents_append (depth ∷ earlier) members follows, i, r)
      | inr e ↦
          let z : first + 1 + 0 ≡ first + 1 = omega arith in
          rw (e, b.parent_is, z, parents_are D (place + length a) depth parent (first + 1) (depth ∷ earlier) rest (past_own b))
    ]

-- the parents that the depths of a run's records tell are the indices of their groups, and the mark at the top
pub told_groups : (D : Dictionary) (place : ℕ) (t : Tree) → parents [] (depths (records D place 1 t)) ≡ groups top_level 0 t
told_groups D place t = parents_are D place 1 top_level 0 [] t (record { some = omega arith; parent_is = refl; first_is = refl })

pub parented_members : (D : Dictionary) (place : ℕ) (t : Tree) → parented (records D place 1 t) ≡ member_records D place 1 top_level 0 t
unfolding parented
parented_members D place t = ap (λ (ps : List ℕ). with_parents ps (records D place 1 t)) (told_groups D place t)

-- of the records that a decoder leaves
module _ (D : Dictionary) (place : ℕ) (s : List ℕ) where
  pub run_members : run_records D place s ≡ member_records D place 1 top_level 0 (tree (avps D) s)
  unfolding run_records
  run_members = parented_members D place (tree (avps D) s)

  pub run_count : length (run_records D place s) ≡ record_count (tree (avps D) s)
  run_count = ap length run_members ∙ member_count_lem D place 1 top_level 0 (tree (avps D) s)

  pub run_groups : own_parents (run_records D place s) ≡ groups top_level 0 (tree (avps D) s)
  unfolding run_records parented
  run_groups =
      let rs = records D place 1 (tree (avps D) s) in
      with_own (told_parents rs) rs (parents_count [] rs) ∙ told_groups D place (tree (avps D) s)

  pub run_told : own_parents (run_records D place s) ≡ told_parents (run_records D place s)
  unfolding run_records
  run_told = parented_told (records D place 1 (tree (avps D) s))

-- ---- they fit, where the records are fewer than four bytes can count

fit_both : (ps qs : List ℕ) → ParentsFit ps → ParentsFit qs → ParentsFit (ps ++ qs)
fit_both [] qs f g = g
fit_both (p ∷ ps) qs f g = (f.0, fit_both ps qs f.1 g)

groups_fit : (parent first : ℕ) (t : Tree) → parent < 256 ^ 4 → first + record_count t < 256 ^ 4 → ParentsFit (groups parent first t)
groups_fit parent first done p f = tt
groups_fit parent first broken p f = tt
groups_fit parent first (plain a rest) p f = (p, groups_fit parent (first + 1) rest p (omega arith))
groups_fit parent first (group a inner rest) p f =
    elim (decide (tiles inner)) [
      | inl e ↦
          let few = rw e at f in
          let i = groups_fit first (first + 1) inner (omega arith) (omega arith) in
          let r = groups_fit parent (first + 1 + record_count inner) rest p (omega arith) in
          rw e (p, fit_both (groups first (first + 1) inner) (groups parent (first + 1 + record_count inner) rest) i r)
      | inr e ↦ let few = rw e at f in rw e (p, groups_fit parent (first + 1 + 0) rest p (omega arith))
    ]

pub told_fit : (D : Dictionary) (place : ℕ) (t : Tree) → record_count t < 256 ^ 4 → ParentsFit (parents [] (depths (records D place 1 t)))
told_fit D place t few = rw (told_groups D place t) (groups_fit top_level 0 t (omega arith) (omega arith))
