-- `own_errors` meets its contract: each flag is raised by its own test, and the two are joined.
use Rattle.avps.proofs.fill.own_errors.Goals as goal

pub returns : goal.returns
returns c =
    rw (c.join.ensures, c.raised-2.ensures, c.raised.ensures, c.get_reserved.ensures)
