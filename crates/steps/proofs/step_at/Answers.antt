-- `step_at` meets its contract: past the end there is nothing left; where no complete AVP is at the front of what is left, the step is
-- stuck; and else it goes over that AVP.
use mathlib.Core.Path.{◌∙◌}
use native.Mathlib.Omega.{arith}
use Rattle.front.proofs.Fronts.{turn, stuck}
use Rattle.steps.proofs.Steps.{ended, stuck_at, steps}
use Rattle.steps.proofs.step_at.Goals as goal

pub returns-in_default : goal.returns-in_default
returns-in_default c =
    stuck_at _ _ (omega arith)
    (stuck c.args.payload.now c.args.place (omega arith) c.in_default.ensures)

pub step_over-requires : goal.step_over-requires
step_over-requires c = let t = turn c.args.payload.now c.args.place c.in-Some.a (omega arith) c.in-Some.ensures in record { whole = t.complete_here; is = t.is }

pub returns : goal.returns
returns c = c.step_over.ensures ∙ steps _ _ (turn c.args.payload.now c.args.place c.in-Some.a (omega arith) c.in-Some.ensures).complete_here

pub returns-then-payload-place : goal.returns-then-payload-place
returns-then-payload-place c = ended _ _ (omega arith)
