-- `vendor_specific_flag` meets its contract: `VENDOR_SPECIFIC_FLAG` is the mask of the bit, `2 ^ vendor_bit`.
use Rattle.flags.proofs.Masks.{mask_bit}
use Rattle.rfc6733.specs.Avp.{vendor_bit}
use Rattle.avp.proofs.AVP.vendor_specific_flag.Goals as goal

pub returns : goal.returns
returns c = mask_bit vendor_bit c.args.flags
