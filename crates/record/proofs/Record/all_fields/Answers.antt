-- `fields` has read all but two, which are read at their places.
use Rattle.std.proofs.Common.{◌∙◌, refl, arith}
use Rattle.octets.proofs.Numbers.{be_part}
use Rattle.record.proofs.Whole.{whole_is}
use Rattle.record.proofs.Record.all_fields.Goals as goal

pub returns : goal.returns
returns c = whole_is _ _ _ _ c.fields-r.ensures refl (c.be_u64.ensures ∙ be_part 8 _ 8 24 (omega arith))
