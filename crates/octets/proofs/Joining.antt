-- Joining two runs, whatever their items are. Where the first run tiles, the tree of the joined run is the first's with
-- the second's in the place of its end; so the counts of the two add up. It asks of a format only that a complete item
-- stays so whatever follows it.
use Prim.Native.Nat.{ℕ, ◌+◌, ◌<◌, max}
use mathlib.Core.Path.{◌≡◌, refl, sym, ap, ◌∙◌}
use mathlib.Core.Bool.{Bool, true, false, cond}
use mathlib.Core.List.{List, ◌∷◌, ◌++◌}
use native.Mathlib.Omega.{arith}
use lib.ListN.{length, length-append}
use lib.Seq.{take-append-le, drop-append-le, take_at, drop_at}
use Rattle.octets.specs.Run.{Format, item, after, Tree, done, broken, plain, group, node, tree, tiles, tried, deepest, items}
use Rattle.octets.proofs.Runs.{false_true, Sound, parts, tree_none, tree_step, tiles_node, tiles_more, by_run}

-- a complete item looks at nothing behind it
pub record Ahead (F : Format) : Type 0 where
  pub stays : (s x : List ℕ) → F.complete s ≡ true → F.complete (s ++ x) ≡ true
  pub same_size : (s x : List ℕ) → F.complete s ≡ true → F.size (s ++ x) ≡ F.size s

-- a tree with another in the place of its end
abbrev pub followed : Tree → Tree → Tree
followed done u = u
followed broken u = broken
followed (plain a rest) u = plain a (followed rest u)
followed (group a inner rest) u = group a inner (followed rest u)

followed_node : (c b : Bool) (a : List ℕ) (inner rest u : Tree)
    → followed (node c b a inner rest) u ≡ node c b a inner (followed rest u)
followed_node false b a inner rest u = refl
followed_node true true a inner rest u = refl
followed_node true false a inner rest u = refl

-- a test that is true was not answered by its other side
test_true : (c b : Bool) → cond c b false ≡ true → c ≡ true
test_true true b e = refl
test_true false b e = absurd (false_true e)

-- ---- the tree of a joined run

module _ (F : Format) (ok : Sound F) (ahead : Ahead F) where
  -- where a run tiles and has a byte, its first item is complete
  pub tiles_complete : (s : List ℕ) → 0 < length s → tiles (tree F s) ≡ true → F.complete s ≡ true
  tiles_complete s pos t = test_true (F.complete s) _ (rw (tree_step F ok s pos, tiles_node) at t)

  -- the first item of s, with x behind s
  record Behind (s x : List ℕ) : Type 0 where
    is_complete : F.complete (s ++ x) ≡ true
    item_is : item F (s ++ x) ≡ item F s
    after_is : after F (s ++ x) ≡ after F s ++ x

  behind : (s x : List ℕ) → F.complete s ≡ true → Behind s x
  unfolding item after
  behind s x e =
      let z = ahead.same_size s x e in
      let room = ok.there s e in
      record {
        is_complete = ahead.stays s x e;
        item_is = rw z (take-append-le (F.size s) s x room);
        after_is = rw z (drop-append-le (F.size s) s x room);
      }

  -- an item's own bytes before others
  pub tree_first : (a x : List ℕ) → F.complete a ≡ true → F.size a ≡ length a
      → tree F (a ++ x) ≡ node true (F.nested a) a (tree F (F.payload a)) (tree F x)
  unfolding item after
  tree_first a x e size =
      let p = parts F ok a e in
      let z = ahead.same_size a x e ∙ size in
      let own : item F (a ++ x) ≡ a = take_at a x _ (sym z) in
      let rest : after F (a ++ x) ≡ x = drop_at a x _ (sym z) in
      tree_step F ok (a ++ x) (omega (arith, length-append a x)) ∙ rw (ahead.stays a x e, own, rest)

  pub tree_joined : (s x : List ℕ) → tiles (tree F s) ≡ true → tree F (s ++ x) ≡ followed (tree F s) (tree F x)
  tree_joined s x =
      by_run F ok (λ (r : List ℕ). tiles (tree F r) ≡ true → tree F (r ++ x) ≡ followed (tree F r) (tree F x))
      (λ t. rw tree_none)
      (λ r pos h t.
      let e = tiles_complete r pos t in
      let w = behind r x e in
      let more = (h e).2 (sym (tiles_more F ok r e) ∙ t) in
      tree_step F ok (r ++ x) (omega (arith, length-append r x))
      ∙ rw (w.is_complete, w.item_is, w.after_is, more, tree_step F ok r pos, e, followed_node))
      s

-- ---- what is counted of it

pub joined_tiles : (t u : Tree) → tiles t ≡ true → tiles (followed t u) ≡ tiles u
joined_tiles done u e = refl
joined_tiles broken u e = absurd (false_true e)
joined_tiles (plain a rest) u e = joined_tiles rest u e
joined_tiles (group a inner rest) u e = joined_tiles rest u e

pub joined_tried : (t u : Tree) → tiles t ≡ true → tried (followed t u) ≡ tried t + tried u
joined_tried done u e = omega arith
joined_tried broken u e = absurd (false_true e)
joined_tried (plain a rest) u e = omega (arith, joined_tried rest u e)
joined_tried (group a inner rest) u e = omega (arith, joined_tried rest u e)

pub joined_deepest : (t u : Tree) → tiles t ≡ true → deepest (followed t u) ≡ max (deepest t) (deepest u)
joined_deepest done u e = omega arith
joined_deepest broken u e = absurd (false_true e)
joined_deepest (plain a rest) u e = omega (arith, joined_deepest rest u e)
joined_deepest (group a inner rest) u e = omega (arith, joined_deepest rest u e)

pub joined_items : (t u : Tree) → tiles t ≡ true → items (followed t u) ≡ items t ++ items u
joined_items done u e = refl
joined_items broken u e = absurd (false_true e)
joined_items (plain a rest) u e = ap (λ (l : List (List ℕ)). a ∷ l) (joined_items rest u e)
joined_items (group a inner rest) u e = ap (λ (l : List (List ℕ)). a ∷ l) (joined_items rest u e)
