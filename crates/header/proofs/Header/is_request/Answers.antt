-- `is_request` meets its contract: `REQUEST_FLAG` is the mask of the bit, `2 ^ request_bit`.
use Rattle.flags.proofs.Masks.{mask_bit}
use Rattle.header.proofs.Header.is_request.Goals as goal

pub returns : goal.returns
returns c = mask_bit _ _
