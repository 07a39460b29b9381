-- Each field is read from a word at its place, and `fields_are` says that these are the definition's.
use Rattle.std.proofs.Common.{arith}
use Rattle.record.proofs.Fields.{fields_are}
use Rattle.record.proofs.Record.fields.Goals as goal

pub returns : goal.returns
returns c =
    let are = fields_are c.args.table.now (λ i. omega (arith, c.type_inv.table i)) _ _ _ _ _ _ c.be_u32.ensures c.be_u32-flags_length.ensures in
    are c.be_u32-2.ensures c.be_u32-3.ensures c.be_u32-pads.ensures c.be_u32-4.ensures
