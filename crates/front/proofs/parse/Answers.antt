-- `parse` meets its contract: a complete AVP is accepted with its fields, and of one that is not, `refusal` says which refusal is
-- first.
use Rattle.front.proofs.Fronts.{was_whole, was_broken}
use Rattle.front.proofs.Refusals.{accepted_whole}
use Rattle.front.proofs.parse.Goals as goal

pub refusal-requires : goal.refusal-requires
refusal-requires c = was_broken _ c.in-None.ensures

pub returns-in-Some : goal.returns-in-Some
returns-in-Some c =
    let was = was_whole _ _ c.in-Some.ensures in
    accepted_whole _ was.0 _ was.1

pub returns-in-None : goal.returns-in-None
returns-in-None c = c.refusal.ensures
