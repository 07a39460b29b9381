-- `is_mandatory` meets its contract: `MANDATORY_FLAG` is the mask of the bit, `2 ^ mandatory_bit`.
use Rattle.flags.proofs.Masks.{mask_bit}
use Rattle.rfc6733.specs.Avp.{mandatory_bit}
use Rattle.avp.proofs.AVP.is_mandatory.Goals as goal

pub returns : goal.returns
returns c = mask_bit mandatory_bit c.args.self.flags
