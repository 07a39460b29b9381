-- `find_from` meets its contract: where the search stops, a step finds what was sought, or says why there is none.
use borrow.Enum.Refused.{opened}
use Rattle.steps.proofs.Steps.{found_there, none_there}
use Rattle.steps.proofs.find_from.Goals as goal

pub returns-in-At : goal.returns-in-At
returns-in-At c =
    found_there _ _ _ _ c.seek.ensures _ c.step_at-s.ensures _ c.in-At.is

pub returns-in_default : goal.returns-in_default
returns-in_default c =
    none_there _ _ _ _ c.seek.ensures _ c.step_at-s.ensures (opened c.in_default.in_default-own.keys2)
