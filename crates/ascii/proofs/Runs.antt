-- Runs of ASCII: a run goes on behind each part of it, and n bytes of it are there where the first n bytes are all UTF8-1.
use Rattle.std.proofs.Common.{◌≡◌, ℕ, zero, suc, ◌+◌, ◌-◌, ◌*◌, ◌/◌, ◌≤◌, ◌<◌, Bool, true, false, ◌&&◌, List, [], ◌∷◌, length, take, drop, length-drop, refl, sym, ◌∙◌, arith}
use Rattle.std.specs.Prelude.{fold}
use Rattle.std.specs.Simd.{first_chunks}
use mathlib.Core.Bool.{and_assoc, and-true}
use mathlib.Core.Logic.{inl, inr}
use mathlib.Mathlib.Data.Bool.Basic.{dichotomy}
use native.Mathlib.Nat.{zero-add, suc-add}
use lib.Dec.{leb, leb-zero, leb-suc-zero, leb-suc-suc}
use lib.Seq.{drop-drop}
use borrow.Author.Tests.{lt-leb, leb-true}
use Rattle.octets.proofs.Lists.{rest}
use Rattle.rfc3629.specs.Syntax.{Utf8_1}
use Rattle.rfc3629.specs.Utf8.{matches_any}
use Rattle.ascii.specs.Ascii.{ascii_run, all_ascii}

abbrev pub is_ascii : ℕ → Bool
is_ascii b = matches_any Utf8_1 (b ∷ [])

run_there : (s : List ℕ) → ascii_run s ≤ length s
run_there [] = omega arith
run_there (b ∷ s) = elim (dichotomy (is_ascii b)) [ inl e ↦ rw e (omega arith) | inr e ↦ rw e (omega (arith, run_there s)) ]

pub run_behind : (n : ℕ) (s : List ℕ) → n ≤ ascii_run s → n + ascii_run (drop n s) ≡ ascii_run s
run_behind zero s h = omega arith
run_behind (suc n) [] h = absurd (omega arith)
run_behind (suc n) (b ∷ s) h =
    elim (dichotomy (is_ascii b)) [
      | inl e ↦ absurd (omega (arith, rw e at h))
      | inr e ↦ rw e (omega (arith, run_behind n s (omega (arith, rw e at h))))
    ]

-- n bytes, and m more behind them
in_parts : (n m : ℕ) (s : List ℕ) → leb (n + m) (ascii_run s) ≡ leb n (ascii_run s) && leb m (ascii_run (drop n s))
in_parts zero m s = rw (zero-add, leb-zero)
in_parts (suc n) m [] = rw (suc-add, leb-suc-zero (n + m), leb-suc-zero n)
in_parts (suc n) m (b ∷ s) =
    elim (dichotomy (is_ascii b)) [
      | inl e ↦ rw (e, suc-add, leb-suc-zero (n + m), leb-suc-zero n)
      | inr e ↦ rw (e, suc-add, leb-suc-suc (n + m) (ascii_run s), leb-suc-suc n (ascii_run s)) (in_parts n m s)
    ]

pub too_short : (n : ℕ) (s : List ℕ) → length s < n → false ≡ leb n (ascii_run s)
too_short n s h = sym (lt-leb n (ascii_run s) (omega (arith, run_there s)))

-- ---- words

-- of the first n bytes, one by one
one_by_one : (n : ℕ) (s : List ℕ) → n ≤ length s → all_ascii (take n s) ≡ leb n (ascii_run s)
one_by_one zero s h = sym (leb-zero (ascii_run s))
one_by_one (suc n) [] h = absurd (omega arith)
one_by_one (suc n) (b ∷ s) h =
    elim (dichotomy (is_ascii b)) [
      | inl e ↦ rw (e, leb-suc-zero n)
      | inr e ↦ rw (e, leb-suc-suc n (ascii_run s)) (one_by_one n s (omega arith))
    ]

-- the first n of the words
first_words : (n m : ℕ) (s : List ℕ) → n ≤ m → take n (first_chunks 4 m s) ≡ first_chunks 4 n s
first_words zero m s h = refl
first_words (suc n) zero s h = absurd (omega arith)
first_words (suc n) (suc m) s h = rw (first_words n m (drop 4 s) (omega arith))

-- asked one by one, after others
words_asked : (n : ℕ) (s : List ℕ) (b : Bool) → 4 * n ≤ length s
    → fold (λ all word. all && all_ascii word) b (first_chunks 4 n s) ≡ b && leb (4 * n) (ascii_run s)
words_asked zero s b h = sym (rw (leb-zero (ascii_run s)) (and-true b))
words_asked (suc n) s b h =
    let further = words_asked n (drop 4 s) (b && all_ascii (take 4 s)) (omega (arith, length-drop 4 s)) in
    let size : 4 * suc n ≡ 4 + 4 * n = omega arith in
    rw (further, one_by_one 4 s (omega arith), size, in_parts 4 (4 * n) s) (simp and_assoc)

pub words_are : (n : ℕ) (s : List ℕ) (words : List (List ℕ)) → words ≡ first_chunks 4 (length s / 4) s → n ≤ length s / 4
    → fold (λ all word. all && all_ascii word) true (take n words) ≡ leb (4 * n) (ascii_run s)
words_are n s words e h = rw (e, first_words n _ s h) (words_asked n s true (omega arith))

-- ---- a run, part by part

-- part of the run was passed up to `at`: what is left of it there is the rest
pub record Left (s : List ℕ) (at : ℕ) : Type 0 where
  pub within : at ≤ length s
  pub same : at + ascii_run (drop at s) ≡ ascii_run s

-- n bytes of the run are passed, as `&s[at..]` lends them
pub passed : (n : ℕ) {s : List ℕ} {at : ℕ} {asked : Bool} → Left s at → asked ≡ true
    → asked ≡ leb n (ascii_run (take (length s - at) (drop at s))) → Left s (at + n)
passed n {s = s} {at = at} l is e =
    let some = leb-true n (ascii_run (drop at s)) (sym (sym is ∙ rw (rest s at l.within) at e)) in
    let behind = rw drop-drop at (run_behind n (drop at s) some) in
    record { within = omega (arith, l.within, run_there (drop at s), length-drop at s); same = omega (arith, l.same) }
