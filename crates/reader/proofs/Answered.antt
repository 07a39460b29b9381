-- What a fresh reader answers is what the definition answers of the message: past its header, the payload is what is left from byte 20 on.
use Prim.Native.Nat.{ℕ}
use mathlib.Core.Path.{◌≡◌, refl, sym, ◌∙◌}
use Rattle.std.specs.Prelude.{Option, None, Some}
use mathlib.Core.Logic.{inl, inr}
use mathlib.Core.List.{List}
use native.Mathlib.Omega.{arith}
use lib.ListN.{take, drop}
use Rattle.octets.specs.Run.{Tree, tree, tiles}
use Rattle.octets.proofs.Lists.{behind}
use Rattle.refusal.specs.Answer.{Refusal, refused, answer, answer_of}
use Rattle.refusal.proofs.Answers.{answer_first}
use Rattle.refusal.proofs.Tests.{decide}
use Rattle.record.specs.Outline.{Outline}
use Rattle.rfc6733.specs.Header.{header_refusals, header_size}
use Rattle.rfc6733.specs.Records.{unentered, tiling}
use Rattle.rfc6733.specs.Decoder.{header_alone, message_body}
use Rattle.rfc6733.specs.Search.{sought}
use Rattle.rfc6733.proofs.Sought.{stuck, first, sought_past}
use Rattle.header.specs.declared.Parsed.{Parsed}
use Rattle.header.proofs.Bodies.{Body}
use Rattle.steps.specs.Steps.{moved, find_at, found_of}

-- what is found of a payload, told of its message
told : (at : ℕ) (t : Tree) (x : Option Outline)
    → answer_of (found_of (moved at t x).found) ≡ answer (stuck x (tiles t)) x
told at t (Some o) = refl
told at t None = elim (decide (tiles t)) [ inl e ↦ rw e | inr e ↦ rw e ]

module _ (code : ℕ) (s : List ℕ) where
  pub asked : (p : Parsed) → Body p s → answer_of (found_of (find_at code (take p.header.length s) header_size).found) ≡ sought code s
  unfolding find_at tiling
  asked p b =
      let payload : drop 20 (take p.header.length s) ≡ message_body s =
      behind 20 p.header.length s (omega (arith, b.length_is, b.facts.twenty)) (omega (arith, b.length_is, b.facts.there)) ∙ b.body_is
      in
      rw payload (told 20 (tree unentered (message_body s)) (first code s)) ∙ sym (sought_past code s b.passes_all)

  -- the header's refusal is the answer
  pub header_refused : (why : Refusal) → refused why ≡ header_alone s → refused why ≡ sought code s
  unfolding header_alone sought
  header_refused why e = sym (answer_first (header_refusals s) _ _ _ why (sym e))
