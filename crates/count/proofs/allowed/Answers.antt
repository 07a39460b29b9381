-- `allowed` meets its contract: it asks the two tests of the definition in their order.
use native.Mathlib.Omega.{arith}
use borrow.Author.Tests.{lt-leb, le-leb}
use Rattle.rfc6733.specs.Decoder.{allowed}
use Rattle.count.proofs.allowed.Goals as goal

pub returns-then-limit-lt1 : goal.returns-then-limit-lt1
unfolding allowed
returns-then-limit-lt1 c = simp (lt-leb 1 c.args.limit (omega arith))

pub returns : goal.returns
unfolding allowed
returns c = simp (le-leb 1 c.args.limit (omega arith))
