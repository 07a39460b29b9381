-- `tiles` meets its contract: each AVP that is passed is complete, so what is left after it is what the definition has after it; and where
-- none is complete, the run tiles only if nothing is left.
use mathlib.Core.Path.{sym, ap, ◌∙◌}
use mathlib.Core.Bool.{false}
use native.Mathlib.Omega.{arith}
use Rattle.front.proofs.Fronts.{first_turn, was_broken, left_is, left_shorter}
use Rattle.rfc6733.specs.Records.{tiling}
use Rattle.rfc6733.proofs.Tiling.{tiling_more, tiling_stuck}
use Rattle.front.proofs.tiles.Goals as goal

pub loop-a-preserved : goal.loop-a-preserved
loop-a-preserved c =
    let s = c.loop-a.rest.now in
    let t = first_turn s c.in-Some.a c.in-Some.ensures in
    ap tiling (left_is s c.in-Some.a t (λ x. false)) ∙ sym (tiling_more s t.complete_here) ∙ c.loop-a.invariant

pub slice_bounds-rest-count : goal.slice_bounds-rest-count
slice_bounds-rest-count c = omega (arith, first_turn c.loop-a.rest.now c.in-Some.a c.in-Some.ensures)

pub slice_bounds-rest-start : goal.slice_bounds-rest-start
slice_bounds-rest-start c = omega (arith, first_turn c.loop-a.rest.now c.in-Some.a c.in-Some.ensures)

pub loop-a-smaller : goal.loop-a-smaller
loop-a-smaller c =
    let s = c.loop-a.rest.now in left_shorter s c.in-Some.a (first_turn s c.in-Some.a c.in-Some.ensures)

pub returns : goal.returns
returns c =
    c.is_empty.ensures ∙ sym (tiling_stuck c.loop-a.rest.now (was_broken _ c.in_default.ensures)) ∙ c.loop-a.invariant
