-- The equations of `tree`, with no count in them, and induction over a run. A complete item takes a byte at least, so what is
-- left after it is shorter; its payload is shorter too. Any count from the length on therefore gives the same tree.
use Prim.Native.Nat.{ℕ, zero, suc, ◌-◌, ◌≤◌, ◌<◌}
use mathlib.Core.Path.{◌≡◌, refl, ap, ap₂, ◌∙◌}
use mathlib.Core.Bool.{Bool, true, false, cond}
use mathlib.Core.List.{List, [], ◌∷◌, ◌++◌}
use native.Mathlib.Omega.{arith}
use lib.ListN.{length, length-take, length-drop, take-append-drop}
use Rattle.octets.specs.Run.{Format, item, after, Tree, done, broken, plain, group, node, tree_in, tree, tiles, covered}

-- the two Bools are not equal
pub false_true : false ≡ true → ⊥
false_true e = let z : ◌≡◌ {A = ℕ} 0 1 = cc in omega arith

-- What a format must keep: a complete item has a byte, is there, and its payload is shorter than it.
pub record Sound (F : Format) : Type 0 where
  pub some : (s : List ℕ) → F.complete s ≡ true → 0 < F.size s
  pub there : (s : List ℕ) → F.complete s ≡ true → F.size s ≤ length s
  pub inside : (s : List ℕ) → F.complete s ≡ true → length (F.payload (item F s)) < F.size s

-- how long the parts of a run are whose first item is complete
pub record Parts (F : Format) (s : List ℕ) : Type 0 where
  pub some : 0 < F.size s
  pub there : F.size s ≤ length s
  pub item_length : length (item F s) ≡ F.size s
  pub after_length : length (after F s) ≡ length s - F.size s
  pub payload_less : length (F.payload (item F s)) < F.size s
  pub whole : item F s ++ after F s ≡ s

module _ (F : Format) (ok : Sound F) where
  pub parts : (s : List ℕ) → F.complete s ≡ true → Parts F s
  unfolding item after
  parts s e =
      let t = ok.there s e in
      record {
        some = ok.some s e;
        there = t;
        item_length = length-take (F.size s) s ∙ omega arith;
        after_length = length-drop (F.size s) s;
        payload_less = ok.inside s e;
        whole = take-append-drop (F.size s) s;
      }

  -- where the item is not complete neither part counts
  node_same : (c b : Bool) (a : List ℕ) (i i' r r' : Tree) → (c ≡ true → (i ≡ i') × (r ≡ r')) → node c b a i r ≡ node c b a i' r'
  node_same false b a i i' r r' h = refl
  node_same true true a i i' r r' h = ap₂ (group a) (h refl).0 (h refl).1
  node_same true false a i i' r r' h = ap (plain a) (h refl).1

  -- any count that is large enough gives the same
  same : (n k : ℕ) (s : List ℕ) → length s ≤ n → length s ≤ k → tree_in F n s ≡ tree_in F k s
  unfolding tree_in
  same zero zero s hn hk = refl
  same zero (suc k) [] hn hk = refl
  same zero (suc k) (b ∷ s) hn hk = absurd (omega arith)
  same (suc n) zero [] hn hk = refl
  same (suc n) zero (b ∷ s) hn hk = absurd (omega arith)
  same (suc n) (suc k) [] hn hk = refl
  same (suc n) (suc k) (b ∷ s) hn hk =
      node_same _ _ _ _ _ _ _ (λ e. let p = parts (b ∷ s) e in (same n k _ (omega arith) (omega arith), same n k _ (omega arith) (omega arith)))

  pub tree_step : (s : List ℕ) → 0 < length s
      → tree F s ≡ node (F.complete s) (F.nested (item F s)) (item F s) (tree F (F.payload (item F s))) (tree F (after F s))
  unfolding tree tree_in
  tree_step [] h = absurd (omega arith)
  tree_step (b ∷ s) h =
      node_same _ _ _ _ _ _ _
      (λ e.
      let p = parts (b ∷ s) e in (
        same (length s) (length (F.payload (item F (b ∷ s)))) _ (omega arith) (omega arith),
        same (length s) (length (after F (b ∷ s))) _ (omega arith) (omega arith),
      ))

  -- Induction over a run: the empty one; and one with a byte, from its first item's payload and from what follows, where that item is complete.
  pub by_run {ℓ} : (P : List ℕ → Type ℓ) → P []
      → ((s : List ℕ) → 0 < length s → (F.complete s ≡ true → Parts F s × P (F.payload (item F s)) × P (after F s)) → P s)
      → (s : List ℕ) → P s
  by_run P none some s = go (length s) s (omega arith)
    where
      go : (n : ℕ) (t : List ℕ) → length t ≤ n → P t
      go zero [] h = none
      go zero (b ∷ t) h = absurd (omega arith)
      go (suc n) [] h = none
      go (suc n) (b ∷ t) h =
          some (b ∷ t) (omega arith) (λ e. let p = parts (b ∷ t) e in (p, go n _ (omega arith), go n _ (omega arith)))

pub tree_none : (F : Format) → tree F [] ≡ done
unfolding tree tree_in
tree_none F = refl

-- ---- the three ways a run goes on

module _ (F : Format) (ok : Sound F) (s : List ℕ) where
  pub tree_broken : 0 < length s → F.complete s ≡ false → tree F s ≡ broken
  tree_broken pos e = rw (tree_step F ok s pos, e)

  pub tree_plain : F.complete s ≡ true → F.nested (item F s) ≡ false → tree F s ≡ plain (item F s) (tree F (after F s))
  tree_plain e n = let p = parts F ok s e in rw (tree_step F ok s (omega arith), e, n)

  pub tree_group : F.complete s ≡ true → F.nested (item F s) ≡ true
      → tree F s ≡ group (item F s) (tree F (F.payload (item F s))) (tree F (after F s))
  tree_group e n = let p = parts F ok s e in rw (tree_step F ok s (omega arith), e, n)

-- ---- whether a run tiles, step by step

-- a node tiles where its item is complete and what follows tiles
pub tiles_node : (c b : Bool) (a : List ℕ) (i r : Tree) → tiles (node c b a i r) ≡ cond c (tiles r) false
tiles_node false b a i r = refl
tiles_node true true a i r = refl
tiles_node true false a i r = refl

pub tiles_none : (F : Format) → tiles (tree F []) ≡ true
tiles_none F = ap tiles (tree_none F)

module _ (F : Format) (ok : Sound F) (s : List ℕ) where
  pub tiles_broken : 0 < length s → F.complete s ≡ false → tiles (tree F s) ≡ false
  tiles_broken pos e = ap tiles (tree_broken F ok s pos e)

  pub tiles_more : F.complete s ≡ true → tiles (tree F s) ≡ tiles (tree F (after F s))
  tiles_more e =
      let p = parts F ok s e in
      rw (tree_step F ok s (omega arith), tiles_node, e)

-- ---- a run that tiles is its items, one after the other

covered_node : (c b : Bool) (F : Format) (s : List ℕ) (i r : Tree)
    → (c ≡ true → Parts F s × (tiles r ≡ true → covered r ≡ after F s))
    → tiles (node c b (item F s) i r) ≡ true → covered (node c b (item F s) i r) ≡ s
covered_node false b F s i r h t = absurd (false_true t)
covered_node true true F s i r h t = rw ((h refl).1 t) (h refl).0.whole
covered_node true false F s i r h t = rw ((h refl).1 t) (h refl).0.whole

pub covered_all : (F : Format) → Sound F → (s : List ℕ) → tiles (tree F s) ≡ true → covered (tree F s) ≡ s
covered_all F ok =
    by_run F ok (λ (s : List ℕ). tiles (tree F s) ≡ true → covered (tree F s) ≡ s) (λ t. rw tree_none)
    (λ s pos h. rw (tree_step F ok s pos) (covered_node _ _ F s _ _ (λ e. ((h e).0, (h e).2))))
