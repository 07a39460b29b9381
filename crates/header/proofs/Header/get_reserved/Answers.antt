-- `get_reserved` meets its contract: `RESERVED_MASK` is `2 ^ 4 - 1`, the mask of the lowest four bits.
use lib.Bits.{and_mask}
use Rattle.header.proofs.Header.get_reserved.Goals as goal

pub returns : goal.returns
returns c = and_mask _ 4
