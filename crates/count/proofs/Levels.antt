-- Laws of `level_of`: the answer from the facts and the facts from an answer, and what a loop over a run has counted so far: a leaf is a
-- record and a header, and a group has its members besides. The counts fit, since no more headers are tried than there are bytes.
use Prim.Native.Nat.{ℕ, ◌+◌, ◌-◌, ◌≤◌, ◌<◌, max}
use mathlib.Core.Path.{◌≡◌, refl, sym, ap, ap₂, ◌∙◌}
use mathlib.Core.Bool.{Bool, true, false, cond}
use mathlib.Core.Logic.{inl, inr}
use mathlib.Core.List.{List}
use native.Mathlib.Omega.{arith}
use lib.ListN.{length}
use lib.Dec.{ltb, eqb}
use borrow.Author.Tests.{ltb-true, ltb-false, lt-ltb, le-ltb, eqb-true, eqb-false, eq-eqb, ne_eqb}
use Rattle.octets.specs.Run.{item, after, Tree, plain, group, tree, tiles, tried, deepest}
use Rattle.octets.proofs.Runs.{tree_plain, tree_group}
use Rattle.refusal.proofs.Tests.{decide}
use Rattle.rfc6733.specs.Avp.{payload, complete}
use Rattle.record.specs.Kinds.{grouped}
use Rattle.rfc6733.specs.Dictionary.{Dictionary}
use Rattle.rfc6733.specs.Records.{avp_kind, avps, record_count}
use Rattle.rfc6733.proofs.Complete.{complete_whole}
use Rattle.rfc6733.proofs.Items.{Same, item_same, sound}
use Rattle.rfc6733.proofs.RunRecords.{count_tried}
use Rattle.rfc6733.proofs.Tried.{tried_length}
use Rattle.std.specs.Prelude.{Some, None}
use Rattle.std.proofs.lemmas.Option.{none-some, same_Some}
use Rattle.count.specs.declared.Level.{Level}
use Rattle.count.specs.Counts.{level_of}

-- ---- facts and answers

abbrev counted : Tree → Level
counted t = record { tiles = tiles t; records = record_count t; tried = tried t }

pub record Known (left : ℕ) (t : Tree) (b : Bool) (n k : ℕ) : Type 0 where
  pub shallow : deepest t ≤ left
  pub tiles_is : b ≡ tiles t
  pub records_is : n ≡ record_count t
  pub tried_is : k ≡ tried t

pub deep : (left : ℕ) (t : Tree) → left < deepest t → None ≡ level_of left t
unfolding level_of
deep left t h = rw (lt-ltb left (deepest t) h)

pub counts : {left : ℕ} {t : Tree} {b : Bool} {n k : ℕ} → Known left t b n k → Some (record { tiles = b; records = n; tried = k }) ≡ level_of left t
unfolding level_of
counts w = rw (le-ltb _ _ w.shallow, w.tiles_is, w.records_is, w.tried_is)

pub was_deep : (left : ℕ) (t : Tree) → None ≡ level_of left t → left < deepest t
unfolding level_of
was_deep left t e = by (ltb left (deepest t)) refl e
  where
    by : (q : Bool) → ltb left (deepest t) ≡ q → None ≡ cond q None (Some (counted t)) → left < deepest t
    by true f e = ltb-true _ _ f
    by false f e = absurd (none-some (counted t) e)

pub was_counts : (left : ℕ) (t : Tree) (l : Level) → Some l ≡ level_of left t → Known left t l.tiles l.records l.tried
unfolding level_of
was_counts left t l e = by (ltb left (deepest t)) refl e
  where
    by : (q : Bool) → ltb left (deepest t) ≡ q → Some l ≡ cond q None (Some (counted t)) → Known left t l.tiles l.records l.tried
    by true f e = absurd (none-some l (sym e))
    by false f e =
        let same = same_Some l (counted t) e in
        record {
          shallow = ltb-false _ _ f;
          tiles_is = ap (λ (x : Level). x.tiles) same;
          records_is = ap (λ (x : Level). x.records) same;
          tried_is = ap (λ (x : Level). x.tried) same;
        }

-- both counts fit wherever the length does
pub within : (D : Dictionary) (s : List ℕ) → (record_count (tree (avps D) s) ≤ length s) × (tried (tree (avps D) s) ≤ length s)
within D s = let l = tried_length D s in (omega (arith, count_tried (tree (avps D) s)), l)

-- ---- a run, AVP by AVP

-- the tree t is what was passed, with r after it: n records and k headers tried were passed, none too deep
pub record Passed (left : ℕ) (t r : Tree) (n k : ℕ) : Type 0 where
  pub tiles_is : tiles t ≡ tiles r
  pub records_is : record_count t ≡ n + record_count r
  pub tried_is : tried t ≡ k + tried r
  pub no_deeper : deepest r ≤ deepest t
  pub shallow : deepest t ≤ max left (deepest r)

pub none_passed : (left : ℕ) (t : Tree) → Passed left t t 0 0
none_passed left t =
    record {
      tiles_is = refl;
      records_is = omega arith;
      tried_is = omega arith;
      no_deeper = omega arith;
      shallow = omega arith;
    }

module _ {left : ℕ} {t r : Tree} {n k : ℕ} (p : Passed left t r n k) where
  -- a leaf more: a record and a header
  pub leaf_passed : {a : List ℕ} {q : Tree} → r ≡ plain a q → 0 < left → Passed left t q (n + 1) (k + 1)
  leaf_passed {a} {q} e some =
      let p : Passed left t (plain a q) n k = rw e at p in
      record {
        tiles_is = p.tiles_is;
        records_is = omega arith;
        tried_is = omega arith;
        no_deeper = omega arith;
        shallow = omega arith;
      }

  -- a group more: the records of its members are counted where it tiles, and the headers tried in it in any case
  pub group_passed : {a : List ℕ} {i q : Tree} {b : Bool} {m j : ℕ} → r ≡ group a i q → 0 < left → Known (left - 1) i b m j
      → Passed left t q (n + 1 + cond b m 0) (k + 1 + j)
  group_passed {a} {i} {q} {b} {m} {j} e some w =
      let p : Passed left t (group a i q) n k = rw e at p in
      let members : cond b m 0 ≡ cond (tiles i) (record_count i) 0 = rw (w.tiles_is, w.records_is) in
      record {
        tiles_is = p.tiles_is;
        records_is = omega arith;
        tried_is = omega arith;
        no_deeper = omega arith;
        shallow = omega arith;
      }

  -- a header is tried too deep in what is left
  pub then_deep : left < deepest r → None ≡ level_of left t
  then_deep h = deep left t (omega arith)

  -- or inside the group that is there
  pub group_deep : {a : List ℕ} {i q : Tree} → r ≡ group a i q → left - 1 < deepest i → None ≡ level_of left t
  group_deep {a} {i} {q} e h = then_deep (omega (arith, ap deepest e))

  -- what is left is x, nothing or a broken header
  pub then_ends : (x : Tree) {m j : ℕ} → r ≡ x → deepest x ≤ left → m ≡ n + record_count x → j ≡ k + tried x
      → Some (record { tiles = tiles x; records = m; tried = j }) ≡ level_of left t
  then_ends x e d records_are tried-are =
      let q = rw e at p in
      counts (record { shallow = omega arith; tiles_is = sym q.tiles_is; records_is = omega arith; tried_is = omega arith })

-- ---- the AVP at the front of what is left

module _ (D : Dictionary) (s : List ℕ) (here : complete s ≡ true) where
  -- its own bytes, and the run after it
  abbrev own : List ℕ
  own = item (avps D) s

  abbrev next : Tree
  next = tree (avps D) (after (avps D) s)

  same : Same own s
  same = item_same (avps D).nested s (complete_whole s here)

  kind_same : avp_kind D own ≡ avp_kind D s
  unfolding avp_kind
  kind_same = ap₂ D.kind same.code_is same.vendor_is

  pub leaf_first : (avp_kind D s ≡ grouped → ⊥) → tree (avps D) s ≡ plain own next
  leaf_first other =
      tree_plain (avps D) (sound (avps D).nested) s here (ne_eqb (avp_kind D own) grouped (λ e. other (sym kind_same ∙ e)))

  pub group_first : avp_kind D s ≡ grouped → tree (avps D) s ≡ group own (tree (avps D) (payload s)) next
  group_first g =
      rw (← same.payload_is)
      (tree_group (avps D) (sound (avps D).nested) s here (eq-eqb (avp_kind D own) grouped (kind_same ∙ g)))

  pub some_recorded : 1 ≤ record_count (tree (avps D) s)
  some_recorded =
      elim (decide (eqb (avp_kind D s) grouped)) [
        | inl g ↦ rw (group_first (eqb-true (avp_kind D s) grouped g)) (omega arith)
        | inr g ↦ rw (leaf_first (eqb-false (avp_kind D s) grouped g)) (omega arith)
      ]
