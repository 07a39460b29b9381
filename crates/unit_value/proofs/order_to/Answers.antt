-- Where ten times the product is above n, so is the product with all of the tens.
use Rattle.std.proofs.Common.{arith}
use Rattle.unit_value.proofs.Powers.{passed}
use Rattle.unit_value.proofs.Wholes.{greater}
use Rattle.unit_value.proofs.order_to.Goals as goal

pub returns-then-n-m : goal.returns-then-n-m
returns-then-n-m c = greater _ _ (passed c.args.m c.loop.counter c.args.k c.args.n (omega arith) (omega arith))
