-- Demand 3, the bound: six times the headers tried is at most the length of a run that tiles, for any dictionary.
-- A run that does not tile ends in one header more, of at least one byte, so there six times the count is at most its length in
-- whole words and two. A group pays for those two by its own header, of eight bytes at least, of which its own count takes six.
use Prim.Native.Nat.{ℕ, ◌+◌, ◌-◌, ◌*◌, ◌/◌, ◌%◌, ◌≤◌, ◌<◌}
use mathlib.Core.Path.{◌≡◌, ap, ◌∙◌}
use mathlib.Core.Bool.{Bool, true, false}
use mathlib.Core.Logic.{inl, inr}
use mathlib.Core.List.{List}
use native.Mathlib.Omega.{arith}
use lib.ListN.{length}
use Rattle.octets.specs.Run.{item, after, Tree, node, tree, tiles, tried}
use Rattle.octets.proofs.Runs.{false_true, Parts, tree_none, tree_step, by_run}
use Rattle.rfc6733.specs.Avp.{flags, head_size, data_size, padding, avp_size, payload, complete}
use Rattle.rfc6733.specs.Dictionary.{Dictionary}
use Rattle.rfc6733.specs.Records.{avps}
use Rattle.rfc6733.proofs.Complete.{head, Whole, sizes, complete_whole}
use Rattle.refusal.proofs.Tests.{decide}
use Rattle.rfc6733.proofs.Items.{sound, item_same, payload_length}

-- so many bytes in whole words. It stays shut below these laws, so that `omega` sees no quotient
unfoldable words : ℕ → ℕ
words n = (n + 3) / 4 * 4

some_word : (n : ℕ) → 0 < n → 4 ≤ words n
unfolding words
some_word n h = omega arith

padded_words : (n p : ℕ) → p ≤ 3 → (n + p) % 4 ≡ 0 → n + p ≡ words n
unfolding words
padded_words n p few even = omega arith

words_after : (n z h d : ℕ) → h % 4 ≡ 0 → z ≡ h + words d → z ≤ n → words n ≡ z + words (n - z)
unfolding words
words_after n z h d e f le = omega arith

-- a complete AVP is its header and its data in whole words, and so is what is left after it
record Words (s : List ℕ) : Type 0 where
  size_is : avp_size s ≡ head_size (flags s) + words (data_size s)
  left : words (length s) ≡ avp_size s + words (length s - avp_size s)

in_words : (s : List ℕ) → Whole s → Words s
in_words s w =
    let z = sizes s in
    let p = padded_words (data_size s) (padding (data_size s)) z.few z.even in
    let e : avp_size s ≡ head_size (flags s) + words (data_size s) = omega arith in
    record { size_is = e; left = words_after (length s) (avp_size s) (head_size (flags s)) (data_size s) (head (flags s)).words e w.room }

-- both bounds, of a tree of n bytes
record Few (t : Tree) (n : ℕ) : Type 0 where
  any : 6 * tried t ≤ words n + 2
  tiled : tiles t ≡ true → 6 * tried t ≤ n

module _ (D : Dictionary) (s : List ℕ) (w : Whole s) (p : Parts (avps D) s) (inner rest : Tree)
    (inside : Few inner (length (payload (item (avps D) s)))) (behind : Few rest (length (after (avps D) s))) where
  few_node : (b : Bool) → Few (node true b (item (avps D) s) inner rest) (length s)
  few_node b =
      let l = ap length (item_same (avps D).nested s w).payload_is ∙ payload_length s w in
      let k = in_words s w in
      let h = head (flags s) in
      let i : 6 * tried inner ≤ words (data_size s) + 2 = rw l at inside.any in
      let r : 6 * tried rest ≤ words (length s - avp_size s) + 2 = rw p.after_length at behind.any in
      elim b as (λ b'. Few (node true b' (item (avps D) s) inner rest) (length s)) [
        | true ↦ record { any = omega arith; tiled = λ e. omega (arith, behind.tiled e) }
        | false ↦ record { any = omega arith; tiled = λ e. omega (arith, behind.tiled e) }
      ]

few : (D : Dictionary) (s : List ℕ) → Few (tree (avps D) s) (length s)
few D =
    by_run (avps D) (sound (avps D).nested) (λ (s : List ℕ). Few (tree (avps D) s) (length s))
    (rw tree_none (record { any = omega arith; tiled = λ e. omega arith }))
    (λ s pos h.
    rw (tree_step (avps D) (sound (avps D).nested) s pos)
    (elim (decide (complete s)) [
      | inl e ↦ let k = h e in rw e (few_node D s (complete_whole s e) k.0 _ _ k.1 k.2 ((avps D).nested (item (avps D) s)))
      | inr e ↦ rw e (record { any = omega (arith, some_word (length s) pos); tiled = λ z. absurd (false_true z) })
    ]))

-- Demand 3, for any run that tiles
pub tried_bound : (D : Dictionary) (s : List ℕ) → tiles (tree (avps D) s) ≡ true → 6 * tried (tree (avps D) s) ≤ length s
tried_bound D s e = (few D s).tiled e

-- whether it tiles or not, the count fits wherever the length does
pub tried_length : (D : Dictionary) (s : List ℕ) → tried (tree (avps D) s) ≤ length s
unfolding words
tried_length D s = let f = (few D s).any in omega arith
