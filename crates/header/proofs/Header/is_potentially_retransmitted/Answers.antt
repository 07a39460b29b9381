-- `is_potentially_retransmitted` meets its contract: `POTENTIALLY_RETRANSMITTED_FLAG` is the mask of the bit, `2 ^ retransmitted_bit`.
use Rattle.flags.proofs.Masks.{mask_bit}
use Rattle.header.proofs.Header.is_potentially_retransmitted.Goals as goal

pub returns : goal.returns
returns c = mask_bit _ _
