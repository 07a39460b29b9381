-- `is_error` meets its contract: `ERROR_FLAG` is the mask of the bit, `2 ^ error_bit`.
use Rattle.flags.proofs.Masks.{mask_bit}
use Rattle.header.proofs.Header.is_error.Goals as goal

pub returns : goal.returns
returns c = mask_bit _ _
