-- `tandrekily_radius_write` meets its contract: it lays out what `radius_writer::write` answers, which writes the output.
use Rattle.tandrekily.specs.Packets.{header_given}
use Rattle.tandrekily.proofs.packets.tandrekily_radius_write.Goals as goal

pub returns : goal.returns
unfolding header_given
returns c =
    let e = c.write.ensures in
    record { res = rw e.answer at c.of_written.ensures; out = rw e.answer at e.out }
