-- `reserved_set` meets its contract: `RESERVED_MASK` is `2 ^ 4 - 1`, the mask of the lowest four bits.
use lib.Bits.{and_mask}
use Rattle.header.proofs.Header.reserved_set.Goals as goal

pub returns : goal.returns
returns c = rw (and_mask c.args.flags 4)
