-- What the reader's functions answer, as answers of the definition.
use Rattle.std.specs.Prelude.{ℕ, ◌≡◌, ◌≤◌, List, length, replicate, Result}
use Rattle.refusal.specs.Answer.{Refusal, Answer, accepted, refused, answer, answer_by}
use Rattle.rfc2865.specs.Packet as definition
use Rattle.rfc2865.specs.Packet.{authenticator_size, packet_length, least_packet, most_packet, header_of, header_refusals}
use Rattle.radius.specs.declared.Packet.{Packet}
use Rattle.radius.specs.declared.Parsed.{Parsed}

-- ---- the header

abbrev pub measured_of : List ℕ → Answer ℕ
measured_of s = answer (header_refusals s) (packet_length s)

-- n is the length of a packet whose header is accepted
pub record Measures (n : ℕ) (s : List ℕ) : Type 0 where
  pub length_is : packet_length s ≡ n
  pub least : least_packet ≤ n
  pub most : n ≤ most_packet
  pub there : n ≤ length s

-- ---- the packet

-- with this authenticator
abbrev pub packet_as : List ℕ → Packet → definition.Packet
packet_as authenticator p =
    record {
      header = record { code = p.code; identifier = p.identifier; authenticator = authenticator };
      counts = record { errors = p.errors; records = p.records; tried = p.tried; length = p.length };
    }

abbrev pub answer_with : List ℕ → Result Packet Refusal → Answer definition.Packet
answer_with authenticator r = answer_by (packet_as authenticator) r

-- with the one that stands in the header of s
abbrev pub answered : List ℕ → Result Packet Refusal → Answer definition.Packet
answered s r = answer_with (header_of s).authenticator r

abbrev pub answer_of : Parsed → Answer definition.Packet
answer_of r = answer_with r.authenticator r.decoded

-- what stands for the authenticator where there is none
abbrev pub authenticator_of : Answer definition.Packet → List ℕ
authenticator_of (accepted p) = p.header.authenticator
authenticator_of (refused why) = replicate authenticator_size 0
