-- `step_over` meets its contract: the AVP is complete, so its header, data and padding are there, and what is made of them is its outline.
use Rattle.std.proofs.Common.{◌+◌}
use native.Mathlib.Omega.{arith}
use lib.ListN.{drop}
use lib.Seq.{get_or-drop}
use Rattle.octets.proofs.Numbers.{be_small}
use Rattle.rfc6733.proofs.Complete.{sizes}
use Rattle.front.proofs.Fronts.{Turn, turn_at}
use Rattle.steps.proofs.Over.{stepped_over}
use Rattle.steps.proofs.step_over.Goals.{Start, After-header_size}
use Rattle.steps.proofs.step_over.Goals as goal

-- the AVP at its place
standing : (c : Start) → Turn c.args.payload.now c.args.at c.args.a
standing c = turn_at _ _ _ c.requires.whole c.requires.is

-- and once more where its header's size is known
there : (c : After-header_size) → Turn c.args.payload.now c.args.at c.args.a
there c = turn_at _ _ _ c.requires.whole c.requires.is

pub overflow_add-padding : goal.overflow_add-padding
overflow_add-padding c = omega (arith, standing (goal.at.overflow_add-padding c).Start, c.well_formed)

pub overflow_add-next : goal.overflow_add-next
overflow_add-next c = omega (arith, standing (goal.at.overflow_add-next c).Start, c.well_formed)

pub overflow_cast-found : goal.overflow_cast-found
overflow_cast-found c =
    let s = c.args.payload.now in
    let small = be_small 3 (drop c.args.at s) 5 (λ i. rw (get_or-drop c.args.at s i 0) (omega (arith, c.type_inv.payload (c.args.at + i)))) in
    omega (arith, (standing (goal.at.overflow_cast-found c).Start).fields.length_is, small)

pub overflow_add-found : goal.overflow_add-found
overflow_add-found c = omega (arith, there (goal.at.overflow_add-found c).After-header_size, c.well_formed, c.header_size.ensures)

pub overflow_sub-found : goal.overflow_sub-found
overflow_sub-found c = omega (arith, there (goal.at.overflow_sub-found c).After-header_size)

pub overflow_cast-found-2 : goal.overflow_cast-found-2
overflow_cast-found-2 c =
    let t = there (goal.at.overflow_cast-found-2 c).After-header_size in
    omega (arith, sizes (drop c.args.at c.args.payload.now), t.fields.size_is, t.fields.length_is)

pub slice_bounds-pads-count : goal.slice_bounds-pads-count
slice_bounds-pads-count c = omega (arith, there (goal.at.slice_bounds-pads-count c).After-header_size)

pub slice_bounds-pads-start : goal.slice_bounds-pads-start
slice_bounds-pads-start c = omega (arith, there (goal.at.slice_bounds-pads-start c).After-header_size)

pub slice_bounds-pads-end : goal.slice_bounds-pads-end
slice_bounds-pads-end c = omega (arith, there (goal.at.slice_bounds-pads-end c).After-header_size)

pub returns : goal.returns
returns c = stepped_over _ _ _ (there (goal.at.returns c).After-header_size) _ _ c.header_size.ensures c.pads.ensures
