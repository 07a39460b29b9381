-- `parse_body` meets its contract: the body that it lends is the run of the definition, so the packet is refused as the run is, and
-- else accepted with its counts.
use mathlib.Core.Path.{◌≡◌, ap, ◌∙◌}
use native.Mathlib.Omega.{arith}
use lib.ListN.{length}
use Rattle.std.proofs.Common.{rules}
use Rattle.octets.specs.Run.{tried, items}
use Rattle.octets.proofs.Numbers.{one_byte}
use Rattle.refusal.specs.Answer.{accepted}
use Rattle.record.specs.Store.{room, stored}
use Rattle.rfc2865.specs.Packet.{header_of, header_refusals, packet_body, run, packet_records, packet_of, packet_refusals, decoded}
use Rattle.rfc2865.proofs.Tried.{records_length}
use Rattle.radius_attributes.specs.Answers.{run_counts}
use Rattle.radius.proofs.Packets.{counted}
use Rattle.radius.proofs.parse_body.Goals as goal

pub returns-in_err-counts : goal.returns-in_err-counts
unfolding header_refusals packet_body packet_records packet_refusals decoded stored
returns-in_err-counts c = record { answer = search rules; store = search rules }

pub returns : goal.returns
unfolding header_of header_refusals packet_body packet_records packet_of packet_refusals decoded stored
returns c =
    let s = c.args.input.now in
    let counts : c.in_ok-counts.counts ≡ run_counts (packet_body s) = grind (arith, counted) in
    let tried : tried (run s) ≡ length (items (run s)) = grind (arith, counted) in
    let is : accepted (packet_of s) ≡ decoded (room c.args.store.now) s = grind (arith, counted) in
    record {
      answer = ap accepted (rw (counts, records_length, tried, one_byte, one_byte, c.requires.length_is)) ∙ is;
      store = search rules;
    }
