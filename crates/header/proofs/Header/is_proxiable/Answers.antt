-- `is_proxiable` meets its contract: `PROXIABLE_FLAG` is the mask of the bit, `2 ^ proxiable_bit`.
use Rattle.flags.proofs.Masks.{mask_bit}
use Rattle.header.proofs.Header.is_proxiable.Goals as goal

pub returns : goal.returns
returns c = mask_bit _ _
