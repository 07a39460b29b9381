-- The first byte of a text says which line of the syntax may match: the first ranges of a line's rows lie between two bytes, and those of two
-- lines do not meet. So the size of a character follows from one line.
use Prim.Native.Nat.{ℕ, ◌≤◌, ◌<◌}
use mathlib.Core.Path.{◌≡◌, refl, sym, ◌∙◌}
use mathlib.Core.Bool.{Bool, true, false, cond, ◌&&◌, ◌||◌, and-true, and-false, or-true, or-false, false≢true}
use mathlib.Core.Logic.{inl, inr}
use mathlib.Core.List.{List, [], ◌∷◌}
use mathlib.Mathlib.Data.Bool.Basic.{dichotomy}
use native.Mathlib.Omega.{arith}
use lib.Dec.{leb, eqb}
use lib.ListN.{length, get_or}
use borrow.Author.Tests.{leb-true, leb-false, le-leb, lt-leb, eq-eqb}
use Rattle.rfc3629.specs.Abnf.{Range}
use Rattle.rfc3629.specs.Syntax.{Utf8Tail, Utf8_1, Utf8_2, Utf8_3, Utf8_4}
use Rattle.rfc3629.specs.Utf8.{within, matches, matches_any, char_size}
use Rattle.rfc3629.proofs.Matches.{both}
use Rattle.rfc3629.proofs.Lines.{size_is, first}

-- do the first ranges of all rows lie from low to high?
abbrev firsts_within : ℕ → ℕ → List (List Range) → Bool
firsts_within low high [] = true
firsts_within low high ([] ∷ rss) = false
firsts_within low high ((r ∷ rs) ∷ rss) = leb low r.low && leb r.high high && firsts_within low high rss

-- a text whose first byte is not among them does not match
outside : (low high : ℕ) (rss : List (List Range)) → firsts_within low high rss ≡ true
    → (s : List ℕ) → (low ≤ get_or s 0 0 → get_or s 0 0 ≤ high → ⊥) → matches_any rss s ≡ false
outside low high [] w s h = refl
outside low high ([] ∷ rss) w s h = absurd (false≢true w)
outside low high ((r ∷ rs) ∷ rss) w [] h = outside low high rss (both (leb low r.low && leb r.high high) (firsts_within low high rss) w).1 [] h
outside low high ((r ∷ rs) ∷ rss) w (b ∷ s) h =
    let tests = both (leb low r.low && leb r.high high) (firsts_within low high rss) w in
    let ends = both (leb low r.low) (leb r.high high) tests.0 in
    elim (dichotomy (matches (r ∷ rs) (b ∷ s))) [
      | inl e ↦ rw e (outside low high rss tests.1 (b ∷ s) h)
      | inr e ↦
          let in_range = both (leb r.low b) (leb b r.high) (both (within r b) (matches rs s) e).0 in
          absurd (h
          (omega (arith, leb-true low r.low ends.0, leb-true r.low b in_range.0))
          (omega (arith, leb-true r.high high ends.1, leb-true b r.high in_range.1)))
    ]

-- ---- the one line that is left

module _ (s : List ℕ) where
  abbrev byte : ℕ → ℕ
  byte k = get_or s k 0

  -- UTF8-1, as code asks it of the first byte
  pub said_1 : {r p : Bool} → 1 ≤ length s → r ≡ matches_any Utf8_1 (byte 0 ∷ []) → r ≡ p → matches_any Utf8_1 s ≡ p
  said_1 room asked is = first 1 Utf8_1 s room ∙ sym asked ∙ is

  -- what code answers by a line that it asks of the bytes at the front, where the others are out
  pub line_2 : {r : Bool} {n : ℕ} → matches_any Utf8_1 s ≡ false → byte 0 ≤ 0xDF
      → 2 ≤ length s → r ≡ matches_any Utf8_2 (byte 0 ∷ byte 1 ∷ []) → n ≡ cond r 2 0 → n ≡ char_size s
  line_2 other h room asked is =
      is ∙ size_is s other (first 2 Utf8_2 s room ∙ sym asked)
      (outside 0xE0 0xEF Utf8_3 refl s (λ l g. omega arith)) (outside 0xF0 0xF4 Utf8_4 refl s (λ l g. omega arith))

  -- two lines are left
  pub from_3 : {p q : Bool} → 0xDF < byte 0 → matches_any Utf8_3 s ≡ p → matches_any Utf8_4 s ≡ q → cond p 3 (cond q 4 0) ≡ char_size s
  from_3 h = size_is s (outside 0x00 0x7F Utf8_1 refl s (λ l g. omega arith)) (outside 0xC2 0xDF Utf8_2 refl s (λ l g. omega arith))

  pub line_3 : {r : Bool} {n : ℕ} → 0xDF < byte 0 → byte 0 ≤ 0xEF
      → 3 ≤ length s → r ≡ matches_any Utf8_3 (byte 0 ∷ byte 1 ∷ byte 2 ∷ []) → n ≡ cond r 3 0 → n ≡ char_size s
  line_3 h k room asked is =
      is ∙ from_3 h (first 3 Utf8_3 s room ∙ sym asked) (outside 0xF0 0xF4 Utf8_4 refl s (λ l g. omega arith))

  -- one is
  pub from_4 : {p : Bool} → 0xEF < byte 0 → matches_any Utf8_4 s ≡ p → cond p 4 0 ≡ char_size s
  from_4 h = from_3 (omega arith) (outside 0xE0 0xEF Utf8_3 refl s (λ l g. omega arith))

  pub line_4 : {r : Bool} {n : ℕ} → 0xEF < byte 0
      → 4 ≤ length s → r ≡ matches_any Utf8_4 (byte 0 ∷ byte 1 ∷ byte 2 ∷ byte 3 ∷ []) → n ≡ cond r 4 0 → n ≡ char_size s
  line_4 h room asked is = is ∙ from_4 h (first 4 Utf8_4 s room ∙ sym asked)

-- ---- UTF8-3 by its first byte

-- E0 and ED alone ask for more than two tails
pub two_tails : (a b c : ℕ) → 0xE0 ≤ a → a ≤ 0xEF → eqb a 0xE0 || eqb a 0xED ≡ false
    → within Utf8Tail b && within Utf8Tail c ≡ matches_any Utf8_3 (a ∷ b ∷ c ∷ [])
two_tails a b c low high other =
    let not_e0 : a ≡ 0xE0 → ⊥ = λ z. false≢true (sym (rw (eq-eqb a 0xE0 z) at other)) in
    let not_ed : a ≡ 0xED → ⊥ = λ z. false≢true (sym (rw (eq-eqb a 0xED z, or-true) at other)) in
    elim (dichotomy (leb a 0xEC)) [
      | inl e ↦
          let above = leb-false a 0xEC e in
          rw (e, lt-leb a 0xE0 (omega arith), le-leb 0xEE a (omega arith), le-leb a 0xEF high, lt-leb a 0xED (omega arith))
          (simp (and-true, and-false, or-false) refl)
      | inr e ↦
          let below = leb-true a 0xEC e in
          rw (e, lt-leb a 0xE0 (omega arith), le-leb 0xE1 a (omega arith), lt-leb 0xED a (omega arith), lt-leb 0xEE a (omega arith))
          (simp (and-true, and-false, or-false) refl)
    ]
