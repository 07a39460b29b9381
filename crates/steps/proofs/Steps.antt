-- What a step answers, case by case, and how a search goes on. A search from one place is the same search from the place past an AVP
-- with another code; it stops at an AVP with the code, where none is complete, or at the end.
use Prim.Native.Nat.{ℕ, ◌+◌, ◌≤◌, ◌<◌}
use mathlib.Core.Path.{◌≡◌, refl, sym, ap, ◌∙◌}
use mathlib.Core.Bool.{true, false}
use Rattle.std.specs.Prelude.{Option, None, Some}
use mathlib.Core.Logic.{inl, inr, ⊎_elim}
use mathlib.Core.List.{List, [], ◌∷◌}
use native.Mathlib.Omega.{arith}
use lib.ListN.{length, drop, drop_of_length-le, length-drop}
use types.Run.{OneOf}
use denote.Enum.Declared.{tag_of}
use borrow.Author.Tests.{eq-eqb, ne_eqb}
use Rattle.octets.specs.Run.{item, after, Tree, tree, tiles}
use Rattle.refusal.proofs.Tests.{decide}
use Rattle.record.specs.Outline.{Outline}
use Rattle.rfc6733.specs.Avp.{complete, avp_size}
use Rattle.rfc6733.specs.Records.{unentered, tiling}
use Rattle.rfc6733.specs.Search.{outline, outlines, first_with}
use Rattle.rfc6733.proofs.Items.{item_same}
use Rattle.rfc6733.proofs.Tiling.{tiling_none, tiling_broken, tiling_more}
use Rattle.rfc6733.proofs.Outlines.{outlines_none, outlines_broken, outlines_more}
use Rattle.avp.specs.declared.AVP.{AVP}
use Rattle.front.proofs.Fronts.{Turn, next_is}
use Rattle.steps.specs.declared.Step.{Step}
use Rattle.steps.specs.declared.Step.TheVariants.{At, Broken, End}
use Rattle.steps.specs.declared.Stepped.{Stepped}
use Rattle.steps.specs.Steps.{onto, moved, first, step_at, find_at, Stops}
use Rattle.steps.specs.contracts.Step.{the_type}

-- ---- a step

module _ (s : List ℕ) (at : ℕ) where
  left_none : length s ≤ at → (outlines at (tree unentered (drop at s)) ≡ []) × (tiling (drop at s) ≡ true)
  left_none h = rw (drop_of_length-le s {i = at} h) (outlines_none at, tiling_none)

  left_broken : at < length s → complete (drop at s) ≡ false → (outlines at (tree unentered (drop at s)) ≡ []) × (tiling (drop at s) ≡ false)
  left_broken h e =
      let pos : 0 < length (drop at s) = omega (arith, length-drop at s) in
      (outlines_broken at (drop at s) pos e, tiling_broken (drop at s) pos e)

  pub ended : length s ≤ at → record { found = End; place = at } ≡ step_at s at
  unfolding step_at tiling
  ended h = let n = left_none h in rw (n.0, n.1)

  pub stuck_at : at < length s → complete (drop at s) ≡ false → record { found = Broken; place = at } ≡ step_at s at
  unfolding step_at tiling
  stuck_at h e = let n = left_broken h e in rw (n.0, n.1)

  pub steps : complete (drop at s) ≡ true → onto (outline at (item unentered (drop at s))) ≡ step_at s at
  unfolding step_at
  steps e = rw (outlines_more at (drop at s) e)

-- ---- a search

module _ (c : ℕ) (s : List ℕ) (from : ℕ) where
  -- the search from a place finds what the one from `from` does
  pub record Seeking (at : ℕ) : Type 0 where
    pub same_first : first_with c (outlines at (tree unentered (drop at s))) ≡ first_with c (outlines from (tree unentered (drop from s)))
    pub same_end : tiling (drop at s) ≡ tiling (drop from s)

  pub starts : Seeking from
  starts = record { same_first = refl; same_end = refl }

  module _ (at : ℕ) (k : Seeking at) where
    stops_at_none : outlines at (tree unentered (drop at s)) ≡ [] → Stops c s from at
    stops_at_none e = record { same_first = rw e (rw e at k.same_first); same_end = k.same_end }

    pub stops_at_end : length s ≤ at → Stops c s from at
    stops_at_end h = stops_at_none (left_none s at h).0

    pub stops_at_broken : at < length s → complete (drop at s) ≡ false → Stops c s from at
    stops_at_broken h e = stops_at_none (left_broken s at h e).0

    module _ (a : AVP) (t : Turn s at a) where
      more : outlines at (tree unentered (drop at s))
          ≡ outline at (item unentered (drop at s)) ∷ outlines (at + avp_size (drop at s)) (tree unentered (after unentered (drop at s)))
      more = outlines_more at (drop at s) t.complete_here

      code_is : (outline at (item unentered (drop at s))).code ≡ a.code
      unfolding outline
      code_is = (item_same (λ x. false) (drop at s) t.whole).code_is ∙ sym t.fields.code_is

      pub stops_at_code : a.code ≡ c → Stops c s from at
      stops_at_code e =
          record { same_first = rw more (rw (more, eq-eqb _ c (code_is ∙ e)) at k.same_first); same_end = k.same_end }

      pub goes_on : (a.code ≡ c → ⊥) → Seeking (at + a.size)
      goes_on other =
          let passed = ne_eqb _ c (λ e. other (sym code_is ∙ e)) in
          let next = next_is (λ x. false) s at a t in
          record {
            same_first = rw (next, t.fields.size_is) (rw (more, passed) at k.same_first);
            same_end = rw next (sym (tiling_more (drop at s) t.complete_here) ∙ k.same_end);
          }

-- ---- where a search stops, a step tells what it found

-- an answer that is not `At`
no_avp : (f : Step) (o : Outline) → OneOf (1 ∷ 2 ∷ []) (tag_of the_type f) → f ≡ At o → ⊥
no_avp f o k e = ⊎_elim (λ t. omega arith) (λ t. omega arith) (rw e at k)

module _ (at from : ℕ) (t u : Tree) (same : tiles t ≡ tiles u) where
  found_same : (x : Option Outline) (o : Outline) → (moved at t x).found ≡ At o → moved at t x ≡ moved from u x
  found_same (Some p) o e = refl
  found_same None o e =
      absurd (elim (decide (tiles t)) [ inl b ↦ no_avp End o (inr refl) (rw b at e) | inr b ↦ no_avp Broken o (inl refl) (rw b at e) ])

  none_same : (x : Option Outline) (f : Step) → f ≡ (moved at t x).found → OneOf (1 ∷ 2 ∷ []) (tag_of the_type f)
      → record { found = f; place = from } ≡ moved from u x
  none_same (Some p) f is k = absurd (no_avp f p k is)
  none_same None f is k = rw (is, same)

module _ (c : ℕ) (s : List ℕ) (from at : ℕ) (k : Stops c s from at) (st : Stepped) (is : st ≡ step_at s at) where
  -- what is left from either place
  abbrev t : Tree
  t = tree unentered (drop at s)

  abbrev u : Tree
  u = tree unentered (drop from s)

  pub found_there : (o : Outline) → st.found ≡ At o → st ≡ find_at c s from
  unfolding step_at find_at tiling
  found_there o e =
      is
      ∙ found_same at from t u k.same_end (first (outlines at t)) o (sym (ap (λ (z : Stepped). z.found) is) ∙ e)
      ∙ ap (moved from u) k.same_first

  pub none_there : OneOf (1 ∷ 2 ∷ []) (tag_of the_type st.found) → record { found = st.found; place = from } ≡ find_at c s from
  unfolding step_at find_at tiling
  none_there e =
      none_same at from t u k.same_end (first (outlines at t)) st.found (ap (λ (z : Stepped). z.found) is) e
      ∙ ap (moved from u) k.same_first
