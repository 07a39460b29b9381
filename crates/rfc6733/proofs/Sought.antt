-- A search and a decoder agree, whatever the dictionary. Where the payload tiles, the outlines of its AVPs are those of the records of depth 1,
-- so the first of them with a code is the first such record's; and a search is refused only as the decoder is.
use Prim.Native.Nat.{ℕ}
use mathlib.Core.Path.{◌≡◌, refl, sym, ap, ◌∙◌}
use mathlib.Core.Bool.{Bool, true, false, not, ◌&&◌}
use Rattle.std.specs.Prelude.{Option, None, Some}
use mathlib.Core.Logic.{inl, inr}
use mathlib.Core.List.{List, [], ◌∷◌, ◌++◌, map}
use Rattle.octets.specs.Run.{tree, tiles}
use Rattle.refusal.specs.Answer.{Refusal, Answer, accepted, refused, Test, refuse, answer, passes}
use Rattle.refusal.specs.declared.Refusal.TheVariants.{NotTiled}
use Rattle.refusal.proofs.Answers.{not_accepted, and-true, passed, passes_append, answer_past, answer_before, among, answer_later, not_among}
use Rattle.refusal.proofs.Tests.{decide}
use Rattle.record.specs.Outline.{Outline, outline_of}
use Rattle.record.specs.Table.{of_depth}
use Rattle.record.specs.Parents.{told_parents, parented}
use Rattle.record.proofs.Parents.{with_outlines}
use Rattle.rfc6733.specs.Header.{header_size, header_refusals}
use Rattle.rfc6733.specs.Dictionary.{Dictionary}
use Rattle.rfc6733.specs.Records.{avps, unentered, tiling, records}
use Rattle.rfc6733.specs.Decoder.{Message, allowed, limit_refusals, fit_refusals, run_refusals, run_records, message_body, message_records, message_refusals, message_of, decoded}
use Rattle.record.specs.Refusals.{tile_refusals}
use Rattle.rfc6733.specs.Search.{outlines, first_with, is_none, sought}
use Rattle.rfc6733.proofs.Accepted.{when_accepted}
use Rattle.rfc6733.proofs.Decoded.{limit_good}
use Rattle.rfc6733.proofs.Tiling.{tiles_any}
use Rattle.rfc6733.proofs.Outlines.{outlines_any, outlines_of_records}

-- the test that a search adds to the header's
abbrev pub stuck : Option Outline → Bool → List Test
stuck found tiled = refuse (is_none found && not tiled) NotTiled ∷ []

stuck_tiled : (x : Option Outline) (b : Bool) → b ≡ true → answer (stuck x b) x ≡ accepted x
stuck_tiled None b e = rw e
stuck_tiled (Some o) b e = refl

-- where it refuses, the payload does not tile
pub record Failing (tiled : Bool) (why : Refusal) : Type 0 where
  pub fails : tiled ≡ false
  pub is : why ≡ NotTiled

stuck_refused : (x : Option Outline) (b : Bool) (why : Refusal) → answer (stuck x b) x ≡ refused why → Failing b why
stuck_refused None false why e = record { fails = refl; is = cc }
stuck_refused None true why e = absurd (not_accepted (sym e))
stuck_refused (Some o) b why e = absurd (not_accepted (sym e))

-- what is found of a payload that does not tile
abbrev pub before_failing : Option Outline → Answer (Option Outline)
before_failing None = refused NotTiled
before_failing (Some o) = accepted (Some o)

stuck_failing : (x : Option Outline) (b : Bool) → b ≡ false → answer (stuck x b) x ≡ before_failing x
stuck_failing None b e = rw e
stuck_failing (Some o) b e = refl

-- ---- NotTiled is said by one test alone

not_the_headers : (s : List ℕ) → among NotTiled (header_refusals s) ≡ false
unfolding header_refusals
not_the_headers s = refl

module _ (code : ℕ) (s : List ℕ) where
  -- the first AVP with the code before the end or the failing place
  abbrev pub first : Option Outline
  first = first_with code (outlines header_size (tree unentered (message_body s)))

  module _ (header : passes (header_refusals s) ≡ true) where
    pub sought_past : sought code s ≡ answer (stuck first (tiling (message_body s))) first
    unfolding sought tiling
    sought_past = answer_past (header_refusals s) _ first header

    pub sought_tiled : (D : Dictionary) → tiles (tree (avps D) (message_body s)) ≡ true
        → sought code s ≡ accepted (first_with code (map outline_of (of_depth 1 (message_records D s))))
    unfolding message_records run_records parented
    sought_tiled D tiled =
        let body = message_body s in
        let rs = records D header_size 1 (tree (avps D) body) in
        let own = sym (outlines_any D body header_size) ∙ outlines_of_records D header_size 1 (tree (avps D) body) ∙ sym (with_outlines 1 (told_parents rs) rs) in
        sought_past ∙ stuck_tiled first (tiling body) (sym (tiles_any D body) ∙ tiled) ∙ ap (λ (os : List Outline). accepted (first_with code os)) own

  -- what the decoder accepts tiles
  pub sought_accepted : (D : Dictionary) (limit room : ℕ) (m : Message) → decoded D limit room s ≡ accepted m
      → sought code s ≡ accepted (first_with code (map outline_of (of_depth 1 (message_records D s))))
  unfolding decoded message_refusals
  sought_accepted D limit room m e =
      let rest = run_refusals D limit room header_size (message_body s) in
      let all = (passed (message_refusals D limit room s) (message_of D s) m e).0 in
      let past =
      (and-true (passes (limit_refusals limit)) (passes (header_refusals s ++ rest)) (sym (passes_append (limit_refusals limit) (header_refusals s ++ rest)) ∙ all)).1
      in
      let header = (and-true (passes (header_refusals s)) (passes rest) (sym (passes_append (header_refusals s) rest) ∙ past)).0 in
      sought_tiled header D (when_accepted D limit room s m e).tiled

  -- where the decoder says NotTiled, the first AVP with the code before the failing place is found
  pub sought_failing : (D : Dictionary) (limit room : ℕ) → decoded D limit room s ≡ refused NotTiled → sought code s ≡ before_failing first
  unfolding decoded message_refusals
  sought_failing D limit room e =
      let t = tree (avps D) (message_body s) in
      let fit = fit_refusals limit room t (run_records D header_size (message_body s)) in
      let past = (answer_later (limit_refusals limit) (header_refusals s ++ (tile_refusals t ++ fit)) (message_of D s) NotTiled refl e).1 in
      let body = answer_later (header_refusals s) (tile_refusals t ++ fit) (message_of D s) NotTiled (not_the_headers s) past in
      sought_past body.0
      ∙ elim (decide (tiles t)) [
        | inl tiled ↦
            absurd
            (not_among fit (message_of D s) NotTiled refl (rw tiled at body.1))
        | inr fails ↦ stuck_failing first (tiling (message_body s)) (sym (tiles_any D (message_body s)) ∙ fails)
      ]

  -- what refuses a search refuses the decoder, with any limit that is allowed
  pub sought_refused : (why : Refusal) → sought code s ≡ refused why
      → (D : Dictionary) (limit room : ℕ) → allowed limit ≡ true → decoded D limit room s ≡ refused why
  unfolding sought tiling decoded message_refusals
  sought_refused why e D limit room ok =
      let rest = run_refusals D limit room header_size (message_body s) in
      sym (limit_good limit (header_refusals s ++ rest) (message_of D s) ok)
      ∙ elim (decide (passes (header_refusals s))) [
        | inl header ↦
            let f = stuck_refused first (tiling (message_body s)) why (sym (sought_past header) ∙ e) in
            answer_past (header_refusals s) rest (message_of D s) header ∙ rw (tiles_any D (message_body s), f.fails, f.is)
        | inr bad ↦ answer_before (header_refusals s) (stuck first (tiling (message_body s))) rest first (message_of D s) why bad e
      ]
