-- `bare` meets its contract: its two tests are those of the definition, on the same length.
use native.Mathlib.Omega.{arith}
use Rattle.std.proofs.lemmas.Bool.Decides.{nat_tests}
use Rattle.rfc6733.specs.Dictionary.{bare_address}
use Rattle.address.proofs.Shown.{bad_length, ipv4, ipv6}
use Rattle.address.proofs.bare.Goals as goal

pub returns-in-4 : goal.returns-in-4
unfolding bare_address
returns-in-4 c = ipv4 _ _ (grind (arith, nat_tests)) (omega arith)

pub returns-in-16 : goal.returns-in-16
unfolding bare_address
returns-in-16 c = ipv6 _ (grind (arith, nat_tests)) (omega arith)

pub returns-in_default : goal.returns-in_default
unfolding bare_address
returns-in_default c = bad_length _ (grind (arith, nat_tests))
