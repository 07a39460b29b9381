-- Rows of ranges and the bytes at the front of a text. A row matches exactly where the text starts with bytes of the row, one for each
-- range; so the text has bytes enough, and those behind do not count.
use Prim.Native.Nat.{ℕ, suc, ◌≤◌, ◌<◌}
use mathlib.Core.Path.{◌≡◌, refl, ap}
use mathlib.Core.Bool.{Bool, true, ◌&&◌, false≢true, and-eq-true_iff}
use mathlib.Core.Logic.{inl, inr}
use mathlib.Core.List.{List, [], ◌∷◌, ◌++◌}
use mathlib.Mathlib.Data.Bool.Basic.{dichotomy}
use native.Mathlib.Omega.{arith}
use lib.Dec.{leb}
use lib.ListN.{length, take, length-take}
use borrow.Author.Tests.{leb-true, le-leb}
use Rattle.rfc3629.specs.Abnf.{Range, Row, OneOf}
use Rattle.rfc3629.specs.Utf8.{within, matches, size_at}

pub both : (a b : Bool) → a && b ≡ true → (a ≡ true) × (b ≡ true)
both a b = (and-eq-true_iff a b).0

-- ---- one row

pub row_length : (rs : List Range) (c : List ℕ) → Row rs c → length c ≡ length rs
row_length [] [] h = refl
row_length (r ∷ rs) (b ∷ c) h = ap suc (row_length rs c h.1)
row_length [] (b ∷ c) h = absurd h
row_length (r ∷ rs) [] h = absurd h

-- a text that matches starts with bytes of the row
pub starts : (rs : List Range) (s : List ℕ) → matches rs s ≡ true → Row rs (take (length rs) s)
starts [] s e = tt
starts (r ∷ rs) [] e = absurd (false≢true e)
starts (r ∷ rs) (b ∷ s) e =
    let front = both (within r b) (matches rs s) e in
    let ends = both (leb r.low b) (leb b r.high) front.0 in
    ((leb-true r.low b ends.0, leb-true b r.high ends.1), starts rs s front.1)

-- a text that starts so matches
pub matched : (rs : List Range) (c u : List ℕ) → Row rs c → matches rs (c ++ u) ≡ true
matched [] c u h = refl
matched (r ∷ rs) [] u h = absurd h
matched (r ∷ rs) (b ∷ c) u h = rw (le-leb r.low b h.0.0, le-leb b r.high h.0.1, matched rs c u h.1)

pub enough : (rs : List Range) (s : List ℕ) → matches rs s ≡ true → length rs ≤ length s
enough rs s e = omega (arith, row_length rs (take (length rs) s) (starts rs s e), length-take (length rs) s)

-- ---- alternatives

pub size_there : (rss : List (List Range)) (s : List ℕ) → size_at rss s ≤ length s
size_there [] s = omega arith
size_there (rs ∷ rss) s = elim (dichotomy (matches rs s)) [ inl e ↦ rw e (size_there rss s) | inr e ↦ rw e (enough rs s e) ]

-- where a size is found, the bytes at the front are of an alternative
pub found : (rss : List (List Range)) (s : List ℕ) → 0 < size_at rss s → OneOf rss (take (size_at rss s) s)
found [] s h = absurd (omega arith)
found (rs ∷ rss) s h =
    elim (dichotomy (matches rs s)) [ inl e ↦ rw e (inr (found rss s (rw e at h))) | inr e ↦ rw e (inl (starts rs s e)) ]
