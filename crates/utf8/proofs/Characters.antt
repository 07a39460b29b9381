-- A text, read character by character. Behind a character a text goes on as a text of its own, so the reading from the front is as far as it has
-- come and as far as what is left goes; and bytes of ASCII are characters, as many as they are.
use Prim.Native.Nat.{ℕ, zero, suc, ◌+◌, ◌-◌, ◌≤◌, ◌<◌}
use mathlib.Core.Path.{◌≡◌, refl, sym, ap, ◌∙◌}
use mathlib.Core.Logic.{inl, inr}
use mathlib.Core.List.{List, [], ◌∷◌}
use mathlib.Mathlib.Data.Bool.Basic.{dichotomy}
use native.Mathlib.Nat.{add-zero}
use native.Mathlib.Omega.{arith}
use lib.ListN.{length, take, drop, length-drop, drop_of_length-le}
use lib.Seq.{drop-drop}
use borrow.Author.Tests.{eq-eqb, ne_eqb}
use Rattle.octets.proofs.Lists.{rest}
use Rattle.rfc3629.specs.Utf8.{char_size, valid_up_to}
use Rattle.ascii.specs.Ascii.{ascii_run}
use Rattle.utf8.specs.Checked.{checked}
use Rattle.std.specs.Prelude.{⊤, Result, Ok, Err}
use Rattle.utf8.specs.declared.Utf8Error.{Utf8Error}
use Rattle.rfc3629.proofs.Grammar.{char_there}
use Rattle.rfc3629.proofs.Prefixes.{up_to_none, up_to_broken, up_to_step, all_of_it}
use Rattle.rfc3629.proofs.Lines.{size_is}
use Rattle.ascii.proofs.Runs.{is_ascii, run_behind}

-- whole characters were passed up to `at`: the text is valid that far, and as far again as what is left is
pub record Passed (s : List ℕ) (at : ℕ) : Type 0 where
  pub within : at ≤ length s
  pub so_far : valid_up_to s ≡ at + valid_up_to (drop at s)

abbrev broken_at : ℕ → Result ⊤ Utf8Error
broken_at n = Err (record { valid_up_to = n })

module _ {s : List ℕ} {at : ℕ} (p : Passed s at) where
  -- nothing is left
  pub ended : length s ≤ at → Ok (record {}) ≡ checked s
  ended h =
      let all = rw (drop_of_length-le s h, up_to_none) at p.so_far in
      rw (all_of_it s, eq-eqb (valid_up_to s) (length s) (omega (arith, p.within)))

  -- a byte is left, and no character is at the front
  pub stuck : at < length s → 0 ≡ char_size (drop at s) → Err (record { valid_up_to = at }) ≡ checked s
  stuck l e =
      let here = rw (up_to_broken (drop at s) (omega (arith, length-drop at s)) (sym e)) at p.so_far in
      rw (all_of_it s, ne_eqb (valid_up_to s) (length s) (λ z. omega arith)) (ap broken_at (omega arith))

  -- a character of n bytes is at the front
  pub step : (n : ℕ) → n ≡ char_size (drop at s) → 0 < n → Passed s (at + n)
  step n e h =
      let more = up_to_step (drop at s) (omega arith) in
      record {
        within = omega (arith, char_there (drop at s), length-drop at s);
        so_far = rw (← drop-drop n at s, e) (omega (arith, p.so_far));
      }

-- ---- ASCII

-- a byte of ASCII is a character
one_ascii : (s : List ℕ) → 0 < ascii_run s → 1 ≡ char_size s
one_ascii [] h = absurd (omega arith)
one_ascii (b ∷ s) h =
    elim (dichotomy (is_ascii b)) [ inl e ↦ absurd (omega (arith, rw e at h)) | inr e ↦ size_is (b ∷ s) e refl refl refl ]

-- n bytes of a run of ASCII are n characters
part_of_run : {s : List ℕ} {at : ℕ} (n : ℕ) → Passed s at → n ≤ ascii_run (drop at s) → Passed s (at + n)
part_of_run {s} {at} zero p h = rw add-zero p
part_of_run {s} {at} (suc n) p h =
    let next : at + suc n ≡ at + n + 1 = omega arith in
    let behind = rw drop-drop at (run_behind n (drop at s) (omega arith)) in
    rw next (step (part_of_run n p (omega arith)) 1 (one_ascii (drop (at + n) s) (omega arith)) (omega arith))

pub run_passed : {s : List ℕ} {at : ℕ} → Passed s at → Passed s (at + ascii_run (drop at s))
run_passed {s} {at} p = part_of_run (ascii_run (drop at s)) p (omega arith)

-- ---- what is passed next

-- `&s[at..]` lends what is left
abbrev left : List ℕ → ℕ → List ℕ
left s at = take (length s - at) (drop at s)

module _ {s : List ℕ} {at n : ℕ} (p : Passed s at) where
  pub by_run : n ≡ ascii_run (left s at) → Passed s (at + n)
  by_run e = rw (rw (rest s at p.within) at e) (run_passed p)

  pub by_character : n ≡ char_size (left s at) → 0 < n → Passed s (at + n)
  by_character e = step p n (rw (rest s at p.within) at e)

  pub no_character : at < length s → n ≡ char_size (left s at) → n ≡ 0 → Err (record { valid_up_to = at }) ≡ checked s
  no_character l e none = stuck p l (sym none ∙ rw (rest s at p.within) at e)
