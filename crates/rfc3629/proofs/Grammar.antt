-- The reading from the front says what the syntax says. Two alternatives of UTF8-char are of one length or share no first byte, so no
-- character is the front of another, and the one that the reading finds at the front is the only one there. A text of characters is
-- therefore read as those; and a text that is read to its end is the characters that were found.
use Prim.Native.Nat.{ℕ, ◌≤◌, ◌<◌}
use mathlib.Core.Path.{◌≡◌, refl, sym, ap, ◌∙◌}
use mathlib.Core.Bool.{Bool, true, false, not, ◌&&◌, ◌||◌, false≢true}
use mathlib.Core.Logic.{◌↔◌, inl, inr}
use mathlib.Core.List.{List, [], ◌∷◌, ◌++◌, append-nil}
use mathlib.Mathlib.Data.Bool.Basic.{dichotomy}
use native.Mathlib.Omega.{arith}
use lib.Dec.{ltb, eqb}
use lib.ListN.{length, take, drop, get_or, length-take, take-append-drop}
use lib.Seq.{take_at, drop_at}
use borrow.Author.Tests.{ltb-true, eqb-true, ne_eqb, eqb-false, not-true}
use Rattle.octets.specs.Run.{item, after, tiles}
use Rattle.octets.proofs.Runs.{Sound, by_run, tree_none, tree_broken, tree_plain}
use Rattle.rfc3629.specs.Abnf.{Range, Row, OneOf, joined, Each}
use Rattle.rfc3629.specs.Syntax.{Utf8Char, Utf8Octets}
use Rattle.rfc3629.specs.Utf8.{matches, size_at, char_size, characters, well_formed}
use Rattle.rfc3629.proofs.Matches.{both, row_length, matched, size_there, found}

-- ---- a text starts with one string of the alternatives at most

-- do the first ranges of two rows share no byte?
abbrev apart : List Range → List Range → Bool
apart (r ∷ rs) (t ∷ ts) = ltb r.high t.low || ltb t.high r.low
apart [] ts = false
apart (r ∷ rs) [] = false

-- is the row as long as each of the others, or apart from it?
abbrev apart_from : List Range → List (List Range) → Bool
apart_from rs [] = true
apart_from rs (ts ∷ tss) = (eqb (length rs) (length ts) || apart rs ts) && apart_from rs tss

abbrev all_apart : List (List Range) → List (List Range) → Bool
all_apart [] tss = true
all_apart (rs ∷ rss) tss = apart_from rs tss && all_apart rss tss

apart_differ : (rs ts : List Range) (c d u v : List ℕ) → apart rs ts ≡ true → Row rs c → Row ts d → c ++ u ≡ d ++ v → ⊥
apart_differ (r ∷ rs) (t ∷ ts) (b ∷ c) (a ∷ d) u v e g h same =
    let first : b ≡ a = ap (λ (s : List ℕ). get_or s 0 0) same in
    elim (dichotomy (ltb r.high t.low)) [
      | inl other ↦ omega (arith, g.0.0, h.0.1, ltb-true t.high r.low (rw other at e))
      | inr below ↦ omega (arith, g.0.1, h.0.0, ltb-true r.high t.low below)
    ]
apart_differ [] ts c d u v e g h same = absurd (false≢true e)
apart_differ (r ∷ rs) [] c d u v e g h same = absurd (false≢true e)
apart_differ (r ∷ rs) (t ∷ ts) [] d u v e g h same = absurd g
apart_differ (r ∷ rs) (t ∷ ts) (b ∷ c) [] u v e g h same = absurd h

module _ (c d u v : List ℕ) (same : c ++ u ≡ d ++ v) where
  of_two_rows : (rs ts : List Range) → eqb (length rs) (length ts) || apart rs ts ≡ true → Row rs c → Row ts d → c ≡ d
  of_two_rows rs ts e g h =
      elim (dichotomy (eqb (length rs) (length ts))) [
        | inl other ↦ absurd (apart_differ rs ts c d u v (rw other at e) g h same)
        | inr one ↦
            let long : length d ≡ length c = row_length ts d h ∙ sym (eqb-true (length rs) (length ts) one) ∙ sym (row_length rs c g) in
            sym (take_at c u (length c) refl) ∙ ap (take (length c)) same ∙ take_at d v (length c) long
      ]

  of_row : (rs : List Range) (tss : List (List Range)) → apart_from rs tss ≡ true → Row rs c → OneOf tss d → c ≡ d
  of_row rs [] e g h = absurd h
  of_row rs (ts ∷ tss) e g h =
      let tests = both (eqb (length rs) (length ts) || apart rs ts) (apart_from rs tss) e in
      elim h [ inl at ↦ of_two_rows rs ts tests.0 g at | inr at ↦ of_row rs tss tests.1 g at ]

  one_at_front : (rss tss : List (List Range)) → all_apart rss tss ≡ true → OneOf rss c → OneOf tss d → c ≡ d
  one_at_front [] tss e g h = absurd g
  one_at_front (rs ∷ rss) tss e g h =
      let tests = both (apart_from rs tss) (all_apart rss tss) e in
      elim g [ inl at ↦ of_row rs tss tests.0 at h | inr at ↦ one_at_front rss tss tests.1 at h ]

-- ---- and the reading finds it

-- has each row a range?
abbrev some_range : List (List Range) → Bool
some_range [] = true
some_range (rs ∷ rss) = ltb 0 (length rs) && some_range rss

finds : (rss : List (List Range)) (c u : List ℕ) → some_range rss ≡ true → OneOf rss c → 0 < size_at rss (c ++ u)
finds [] c u e h = absurd h
finds (rs ∷ rss) c u e h =
    let tests = both (ltb 0 (length rs)) (some_range rss) e in
    elim (dichotomy (matches rs (c ++ u))) [
      | inl m ↦ rw m (elim h [ inl g ↦ absurd (false≢true (sym m ∙ matched rs c u g)) | inr g ↦ finds rss c u tests.1 g ])
      | inr m ↦ rw m (ltb-true 0 (length rs) tests.0)
    ]

finds_it : (rss : List (List Range)) → all_apart rss rss ≡ true → some_range rss ≡ true
    → (c u : List ℕ) → OneOf rss c → size_at rss (c ++ u) ≡ length c
finds_it rss free some c u h =
    let n = size_at rss (c ++ u) in
    let is = one_at_front c (take n (c ++ u)) u (drop n (c ++ u)) (sym (take-append-drop n (c ++ u))) rss rss free h (found rss (c ++ u) (finds rss c u some h)) in
    omega (arith, ap length is, length-take n (c ++ u), size_there rss (c ++ u))

-- ---- of UTF-8

-- no character is the front of another
pub no_front : (c u : List ℕ) → OneOf Utf8Char c → OneOf Utf8Char (c ++ u) → u ≡ []
no_front c u g h =
    let is = one_at_front c (c ++ u) u [] (sym (append-nil (c ++ u))) Utf8Char Utf8Char refl g h in
    sym (drop_at c u (length c) refl) ∙ ap (drop (length c)) (sym is) ∙ rw (append-nil c) at (drop_at c [] (length c) refl)

pub size_is_length : (c u : List ℕ) → OneOf Utf8Char c → char_size (c ++ u) ≡ length c
unfolding char_size
size_is_length = finds_it Utf8Char refl refl

pub character_found : (s : List ℕ) → 0 < char_size s → OneOf Utf8Char (take (char_size s) s)
unfolding char_size
character_found = found Utf8Char

pub a_size : (c u : List ℕ) → OneOf Utf8Char c → 0 < char_size (c ++ u)
unfolding char_size
a_size c u = finds Utf8Char c u refl

-- ---- a text

pub has_byte : (s : List ℕ) → not (eqb (char_size s) 0) ≡ true → 0 < char_size s
has_byte s e = let h = eqb-false (char_size s) 0 (not-true (eqb (char_size s) 0) e) in omega arith

pub char_there : (s : List ℕ) → char_size s ≤ length s
unfolding char_size
char_there = size_there Utf8Char

pub sound : Sound characters
sound = record { some = has_byte; there = λ s e. char_there s; inside = has_byte }

-- characters, one after the other, are read as such
are_read : (cs : List (List ℕ)) → Each (OneOf Utf8Char) cs → well_formed (joined cs) ≡ true
unfolding well_formed after
are_read [] e = rw (tree_none characters)
are_read (c ∷ cs) e =
    let s = c ++ joined cs in
    let size = size_is_length c (joined cs) e.0 in
    let whole = ap not (ne_eqb (char_size s) 0 (λ z. omega (arith, a_size c (joined cs) e.0))) in
    ap tiles (tree_plain characters sound s whole refl) ∙ rw (drop_at c (joined cs) (char_size s) (sym size)) (are_read cs e.1)

-- what is read to its end is characters, one after the other
is_characters : (s : List ℕ) → well_formed s ≡ true → Utf8Octets s
unfolding well_formed item
is_characters =
    by_run characters sound (λ (s : List ℕ). well_formed s ≡ true → Utf8Octets s) (λ e. record { strings = []; each = tt; whole = refl })
    (λ s pos h e.
    elim (dichotomy (characters.complete s)) [
      | inl k ↦ absurd (false≢true (ap tiles (sym (tree_broken characters sound s pos k)) ∙ e))
      | inr k ↦
          let rest = (h k).2 (ap tiles (sym (tree_plain characters sound s k refl)) ∙ e) in
          record {
            strings = item characters s ∷ rest.strings;
            each = (character_found s (has_byte s k), rest.each);
            whole = ap (item characters s ++◌) rest.whole ∙ (h k).0.whole;
          }
    ])

pub well_formed_is : (s : List ℕ) → (well_formed s ≡ true) ↔ Utf8Octets s
well_formed_is s = (is_characters s, λ (octets : Utf8Octets s). rw octets.whole at (are_read octets.strings octets.each))
