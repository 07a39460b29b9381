-- `is_protected` meets its contract: `PROTECTED_FLAG` is the mask of the bit, `2 ^ protected_bit`.
use Rattle.flags.proofs.Masks.{mask_bit}
use Rattle.rfc6733.specs.Avp.{protected_bit}
use Rattle.avp.proofs.AVP.is_protected.Goals as goal

pub returns : goal.returns
returns c = mask_bit protected_bit c.args.self.flags
