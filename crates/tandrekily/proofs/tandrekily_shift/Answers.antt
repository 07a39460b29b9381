-- `tandrekily_shift` meets its contract: it lays out what `shift` answers, which moves the table.
use Rattle.tandrekily.proofs.tandrekily_shift.Goals as goal

pub returns : goal.returns
returns c =
    let e = c.shift.ensures in
    record { res = rw e.answer at c.of_shifted.ensures; table = rw e.answer at e.table }
