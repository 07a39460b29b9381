-- The four lines of UTF8-char, as code asks them. The alternatives of a line are of one length, so a line matches only where there are
-- bytes enough, looks at no byte behind them, and is asked for as a whole before the next.
use Prim.Native.Nat.{ℕ, zero, suc, ◌+◌, ◌≤◌, ◌<◌}
use mathlib.Core.Path.{◌≡◌, refl, sym, ap, ◌∙◌}
use mathlib.Core.Bool.{Bool, true, false, cond, ◌&&◌}
use mathlib.Core.Logic.{inl, inr}
use mathlib.Core.List.{List, [], ◌∷◌, ◌++◌}
use mathlib.Mathlib.Data.Bool.Basic.{dichotomy}
use native.Mathlib.Omega.{arith}
use lib.Dec.{eqb}
use lib.ListN.{length, get_or, drop}
use lib.Seq.{drop-cons}
use borrow.Author.Tests.{eqb-true}
use Rattle.rfc3629.specs.Abnf.{Range}
use Rattle.rfc3629.specs.Syntax.{Utf8_1, Utf8_2, Utf8_3, Utf8_4}
use Rattle.rfc3629.specs.Utf8.{matches, matches_any, size_at, char_size}
use Rattle.rfc3629.proofs.Matches.{both, enough}

-- has every row n ranges?
abbrev wide : ℕ → List (List Range) → Bool
wide n [] = true
wide n (rs ∷ rss) = eqb (length rs) n && wide n rss

-- a text that is too short for the line does not match it
pub short : (n : ℕ) (rss : List (List Range)) → wide n rss ≡ true → (s : List ℕ) → length s < n → matches_any rss s ≡ false
short n [] w s h = refl
short n (rs ∷ rss) w s h =
    let tests = both (eqb (length rs) n) (wide n rss) w in
    elim (dichotomy (matches rs s)) [
      | inl e ↦ rw e (short n rss tests.1 s h)
      | inr e ↦ absurd (omega (arith, enough rs s e, eqb-true (length rs) n tests.0))
    ]

-- the line is asked first, and then the others
line : (n : ℕ) (rss tss : List (List Range)) → wide n rss ≡ true → (s : List ℕ)
    → size_at (rss ++ tss) s ≡ cond (matches_any rss s) n (size_at tss s)
line n [] tss w s = refl
line n (rs ∷ rss) tss w s =
    let tests = both (eqb (length rs) n) (wide n rss) w in
    elim (dichotomy (matches rs s)) [ inl e ↦ rw e (line n rss tss tests.1 s) | inr e ↦ rw e (eqb-true (length rs) n tests.0) ]

-- the four lines, in their order
pub size_is : (s : List ℕ) {p q r t : Bool} → matches_any Utf8_1 s ≡ p → matches_any Utf8_2 s ≡ q → matches_any Utf8_3 s ≡ r → matches_any Utf8_4 s ≡ t
    → cond p 1 (cond q 2 (cond r 3 (cond t 4 0))) ≡ char_size s
unfolding char_size
size_is s d e f g =
    rw (← d, ← e, ← f, ← g)
    (sym (line 1 Utf8_1 (Utf8_2 ++ Utf8_3 ++ Utf8_4) refl s
    ∙ ap (cond (matches_any Utf8_1 s) 1) (line 2 Utf8_2 (Utf8_3 ++ Utf8_4) refl s
    ∙ ap (cond (matches_any Utf8_2 s) 2) (line 3 Utf8_3 Utf8_4 refl s
    ∙ ap (cond (matches_any Utf8_3 s) 3) (line 4 Utf8_4 [] refl s)))))

-- s, with n bytes from place i on written out
abbrev ahead : ℕ → ℕ → List ℕ → List ℕ
ahead zero i s = drop i s
ahead (suc n) i s = get_or s i 0 ∷ ahead n (suc i) s

written_out : (n i : ℕ) (s : List ℕ) → i + n ≤ length s → drop i s ≡ ahead n i s
written_out zero i s h = refl
written_out (suc n) i s h = rw (drop-cons s i 0 (omega arith), written_out n (suc i) s (omega arith))

-- the line looks at n bytes alone
pub first : (n : ℕ) (rss : List (List Range)) (s : List ℕ) → n ≤ length s → matches_any rss s ≡ matches_any rss (ahead n 0 s)
first n rss s h = ap (matches_any rss) (written_out n 0 s (omega arith))
