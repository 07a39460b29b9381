-- The reading from the front finds the longest prefix that is well-formed. A prefix that is well-formed starts with the character that the
-- reading finds there, since no other is at the front; so it is no longer than that character and the longest prefix of what follows.
use Prim.Native.Nat.{ℕ, ◌+◌, ◌-◌, ◌≤◌, ◌<◌}
use mathlib.Core.Path.{◌≡◌, refl, sym, ap, ◌∙◌}
use mathlib.Core.Bool.{true, false, not, false≢true}
use mathlib.Core.Logic.{inl, inr}
use mathlib.Core.List.{List, [], ◌∷◌, ◌++◌, append_assoc}
use mathlib.Mathlib.Data.Bool.Basic.{dichotomy}
use native.Mathlib.Omega.{arith}
use lib.Dec.{ltb, eqb}
use lib.ListN.{length, take, drop, length-append, length-drop, take-append-drop}
use lib.Seq.{length-take-le, take-length, drop_at, take-add}
use borrow.Author.Tests.{ltb-true, ltb-false, eqb-true, eqb-false, eq-eqb, ne_eqb, not-false}
use Rattle.octets.specs.Run.{item, after}
use Rattle.octets.proofs.Runs.{by_run, tree_none, tree_broken, tree_plain, covered_all}
use Rattle.rfc3629.specs.Abnf.{OneOf, joined, Each}
use Rattle.rfc3629.specs.Syntax.{Utf8Char, Utf8Octets}
use Rattle.rfc3629.specs.Prefix.{LongestPrefix}
use Rattle.rfc3629.specs.Utf8.{char_size, characters, well_formed, valid_up_to}
use Rattle.rfc3629.proofs.Grammar.{char_there, character_found, size_is_length, a_size, has_byte, sound, well_formed_is}

-- ---- how far the reading goes

pub up_to_none : valid_up_to [] ≡ 0
unfolding valid_up_to
up_to_none = rw (tree_none characters)

module _ (s : List ℕ) where
  -- a byte is left, and no character is at the front
  pub up_to_broken : 0 < length s → char_size s ≡ 0 → valid_up_to s ≡ 0
  unfolding valid_up_to
  up_to_broken pos e = rw (tree_broken characters sound s pos (ap not (eq-eqb (char_size s) 0 e)))

  -- a character is at the front
  pub up_to_step : 0 < char_size s → valid_up_to s ≡ char_size s + valid_up_to (drop (char_size s) s)
  unfolding valid_up_to item after
  up_to_step some =
      let whole = ap not (ne_eqb (char_size s) 0 (λ z. omega arith)) in
      let there = char_there s in
      rw (tree_plain characters sound s whole refl, length-append) (ap (◌+ valid_up_to (drop (char_size s) s)) (length-take-le (char_size s) s there))

-- ---- a prefix that is well-formed

-- what is left of the first n + m bytes behind n of them
behind_front : (n m : ℕ) (s : List ℕ) → n ≤ length s → drop n (take (n + m) s) ≡ take m (drop n s)
behind_front n m s le = rw take-add (drop_at (take n s) (take m (drop n s)) n (length-take-le n s le))

-- it starts with the character that the reading finds, and goes on as a prefix of what follows
record Starts (s : List ℕ) (m : ℕ) : Type 0 where
  some : 0 < char_size s
  within : char_size s ≤ m
  goes_on : Utf8Octets (take (m - char_size s) (drop (char_size s) s))

starts_of : (s : List ℕ) (m : ℕ) → 0 < m → m ≤ length s → (cs : List (List ℕ)) → Each (OneOf Utf8Char) cs → joined cs ≡ take m s → Starts s m
starts_of s m pos le [] each whole = absurd (omega (arith, ap length whole, length-take-le m s le))
starts_of s m pos le (c ∷ cs) each whole =
    let is : c ++ (joined cs ++ drop m s) ≡ s = sym (append_assoc c (joined cs) (drop m s)) ∙ ap (◌++ drop m s) whole ∙ take-append-drop m s in
    let size : char_size s ≡ length c = rw is at (size_is_length c (joined cs ++ drop m s) each.0) in
    let some : 0 < char_size s = rw is at (a_size c (joined cs ++ drop m s) each.0) in
    let within : char_size s ≤ m = omega (arith, ap length whole, length-append c (joined cs), length-take-le m s le) in
    let all : char_size s + (m - char_size s) ≡ m = omega arith in
    let cut : take (m - char_size s) (drop (char_size s) s) ≡ drop (char_size s) (take m s) =
    sym (behind_front (char_size s) (m - char_size s) s (char_there s)) ∙ ap (λ (n : ℕ). drop (char_size s) (take n s)) all
    in
    record {
      some = some;
      within = within;
      goes_on = record {
        strings = cs;
        each = each.1;
        whole = sym (drop_at c (joined cs) (char_size s) (sym size)) ∙ ap (drop (char_size s)) whole ∙ sym cut;
      };
    }

starts : (s : List ℕ) (m : ℕ) → 0 < m → m ≤ length s → Utf8Octets (take m s) → Starts s m
starts s m pos le octets = starts_of s m pos le octets.strings octets.each octets.whole

-- ---- the longest one

-- none at all
none_longest : (s : List ℕ) → char_size s ≡ 0 → LongestPrefix s 0
none_longest s e =
    record {
      is_prefix = omega arith;
      well_formed_lem = record { strings = []; each = tt; whole = refl };
      no_longer = λ m more le octets. let st = starts s m more le octets in omega (arith, st.some);
    }

-- a character, and the longest of what follows
module _ (s : List ℕ) (some : 0 < char_size s) (k : ℕ) (rest : LongestPrefix (drop (char_size s) s) k) where
  further : LongestPrefix s (char_size s + k)
  further =
      let there = char_there s in
      let left = length-drop (char_size s) s in
      record {
        is_prefix = omega (arith, rest.is_prefix);
        well_formed_lem = record {
          strings = take (char_size s) s ∷ rest.well_formed_lem.strings;
          each = (character_found s some, rest.well_formed_lem.each);
          whole = ap (take (char_size s) s ++◌) rest.well_formed_lem.whole ∙ sym (take-add (char_size s) k s);
        };
        no_longer = λ m more le octets.
            let st = starts s m (omega arith) le octets in
            rest.no_longer (m - char_size s) (omega (arith, st.within)) (omega (arith, st.within)) st.goes_on;
      }

pub longest : (s : List ℕ) → LongestPrefix s (valid_up_to s)
unfolding after
longest =
    by_run characters sound (λ (s : List ℕ). LongestPrefix s (valid_up_to s)) (rw up_to_none (none_longest [] (omega (arith, char_there []))))
    (λ s pos h.
    elim (dichotomy (characters.complete s)) [
      | inl k ↦ let e = eqb-true (char_size s) 0 (not-false (eqb (char_size s) 0) k) in rw (up_to_broken s pos e) (none_longest s e)
      | inr k ↦ rw (up_to_step s (has_byte s k)) (further s (has_byte s k) _ (h k).2)
    ])

-- and there is one alone
pub one_longest : (s : List ℕ) (n m : ℕ) → LongestPrefix s n → LongestPrefix s m → n ≡ m
one_longest s n m p q =
    elim (dichotomy (ltb n m)) [
      | inr less ↦ absurd (p.no_longer m (ltb-true n m less) q.is_prefix q.well_formed_lem)
      | inl no_less ↦
          elim (dichotomy (ltb m n)) [
            | inr more ↦ absurd (q.no_longer n (ltb-true m n more) p.is_prefix p.well_formed_lem)
            | inl no_more ↦ omega (arith, ltb-false n m no_less, ltb-false m n no_more)
          ]
    ]

-- ---- the first case: the whole text

pub reaches_end : (s : List ℕ) → well_formed s ≡ true → valid_up_to s ≡ length s
unfolding well_formed valid_up_to
reaches_end s e = ap length (covered_all characters sound s e)

at_end : (s : List ℕ) → valid_up_to s ≡ length s → well_formed s ≡ true
at_end s e = (well_formed_is s).1 (rw (e, take-length s) at (longest s).well_formed_lem)

-- a text is well-formed exactly where that prefix is all of it
pub all_of_it : (s : List ℕ) → well_formed s ≡ eqb (valid_up_to s) (length s)
all_of_it s =
    elim (dichotomy (well_formed s)) [
      | inl broken ↦ rw broken (sym (ne_eqb (valid_up_to s) (length s) (λ e. false≢true (sym broken ∙ at_end s e))))
      | inr whole ↦ rw whole (sym (eq-eqb (valid_up_to s) (length s) (reaches_end s whole)))
    ]

-- and where it is not, it is shorter
pub broke_before_end : (s : List ℕ) → well_formed s ≡ false → valid_up_to s < length s
broke_before_end s e = omega (arith, (longest s).is_prefix, eqb-false (valid_up_to s) (length s) (sym (all_of_it s) ∙ e))
