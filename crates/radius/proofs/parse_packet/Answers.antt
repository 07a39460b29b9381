-- `parse_packet` meets its contract: the header's refusals are the packet's, and an accepted header leads to `parse_body`, whose contract
-- is the same.
use native.Mathlib.Omega.{arith}
use Rattle.std.proofs.lemmas.Grind.{common_steps}
use Rattle.record.specs.Store.{stored}
use Rattle.rfc2865.specs.Packet.{header_refusals, packet_refusals, decoded}
use Rattle.radius.proofs.parse_packet.Goals as goal

pub parse_body-requires : goal.parse_body-requires
unfolding header_refusals
parse_body-requires c = grind (arith, common_steps)

pub returns-in_err-measure : goal.returns-in_err-measure
unfolding header_refusals packet_refusals decoded stored
returns-in_err-measure c = record { answer = grind (arith, common_steps); store = grind (arith, common_steps) }
