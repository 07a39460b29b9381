-- `tandrekily_write` meets its contract: it lays out what `writer::write` answers, which writes the output.
use Rattle.writer.specs.Answers.{fields_as}
use Rattle.tandrekily.specs.Asked.{fields_given}
use Rattle.tandrekily.proofs.tandrekily_write.Goals as goal

pub returns : goal.returns
unfolding fields_as fields_given
returns c =
    let e = c.write.ensures in
    record { res = rw e.answer at c.of_written.ensures; out = rw e.answer at e.out }
