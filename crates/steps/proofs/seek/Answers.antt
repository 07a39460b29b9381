-- `seek` meets its contract: the search from `at` finds what the search from `place` does, since every AVP passed so far was complete and
-- had another code. The measure is what is left of the payload.
use native.Mathlib.Omega.{arith}
use Rattle.front.proofs.Fronts.{turn, stuck}
use Rattle.steps.proofs.Steps.{starts, stops_at_end, stops_at_broken, stops_at_code, goes_on}
use Rattle.steps.proofs.seek.Goals as goal

pub returns-in_default : goal.returns-in_default
returns-in_default c =
    let s = c.args.payload.now in
    stops_at_broken _ _ _ _ c.loop-at.invariant (omega arith)
    (stuck s c.loop-at.at (omega arith) c.in_default.ensures)

pub returns-then-a-code : goal.returns-then-a-code
returns-then-a-code c =
    stops_at_code _ _ _ _ c.loop-at.invariant _ (turn c.args.payload.now c.loop-at.at c.in-Some.a (omega arith) c.in-Some.ensures) c.if-a-code.true

pub loop-at-preserved : goal.loop-at-preserved
loop-at-preserved c =
    goes_on _ _ _ _ c.loop-at.invariant _ (turn c.args.payload.now c.loop-at.at c.in-Some.a (omega arith) c.in-Some.ensures) c.if-a-code.false

pub loop-at-init : goal.loop-at-init
loop-at-init c = starts _ _ _

pub overflow_add-at : goal.overflow_add-at
overflow_add-at c = omega (arith, turn c.args.payload.now c.loop-at.at c.in-Some.a (omega arith) c.in-Some.ensures)

pub loop-at-smaller : goal.loop-at-smaller
loop-at-smaller c = omega (arith, turn c.args.payload.now c.loop-at.at c.in-Some.a (omega arith) c.in-Some.ensures)

pub returns : goal.returns
returns c = stops_at_end _ _ _ _ c.loop-at.invariant c.loop-at-test.false
