-- What the functions of RADIUS are asked, and what the lent memory holds afterwards (docs/FORMAT.md, 11).
use Rattle.std.specs.Prelude.{ℕ, List, length}
use Rattle.refusal.specs.Answer.{Answer, accepted, refused}
use Rattle.record.specs.Store.{room, stored, output}
use Rattle.rfc2865.specs.Packet as definition
use Rattle.rfc2865.specs.Packet.{Header, packet_records, decoded}
use Rattle.rfc2865.specs.Writer.{table_bytes, written}
use Rattle.results.specs.Packets.{written_result}

-- a packet, with a lent store
abbrev pub packet_asked : List ℕ → List ℕ → Answer definition.Packet
packet_asked store input = decoded (room store) input

abbrev pub packet_store : List ℕ → List ℕ → List ℕ
packet_store store input = stored (packet_asked store input) (packet_records input) store

-- the packet's authenticator, and as lent where it is refused
unfoldable pub authenticator_after : Answer definition.Packet → List ℕ → List ℕ
authenticator_after (accepted p) lent = p.header.authenticator
authenticator_after (refused why) lent = lent

unfoldable pub header_given : ℕ → ℕ → List ℕ → Header
header_given code identifier authenticator = record { code = code; identifier = identifier; authenticator = authenticator }

-- a table to be written, by the header's three fields, with a lent output
abbrev pub write_asked : ℕ → ℕ → List ℕ → List ℕ → List ℕ → List ℕ → Answer ℕ
write_asked code identifier authenticator table pool out = written (header_given code identifier authenticator) table pool (length out)

abbrev pub write_result : ℕ → ℕ → List ℕ → List ℕ → List ℕ → List ℕ → List ℕ
write_result code identifier authenticator table pool out = written_result (write_asked code identifier authenticator table pool out)

abbrev pub write_output : ℕ → ℕ → List ℕ → List ℕ → List ℕ → List ℕ → List ℕ
write_output code identifier authenticator table pool out =
    output (write_asked code identifier authenticator table pool out) (table_bytes (header_given code identifier authenticator) table pool) out
