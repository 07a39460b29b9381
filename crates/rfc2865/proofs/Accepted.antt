-- What is known of a packet that is accepted: every refusal's test, turned round.
use Prim.Native.Nat.{ℕ, ◌≤◌}
use mathlib.Core.Path.{◌≡◌}
use mathlib.Core.Bool.{true}
use mathlib.Core.List.{List}
use lib.ListN.{length}
use Rattle.octets.specs.Run.{tiles}
use Rattle.refusal.specs.Answer.{accepted, passes}
use Rattle.refusal.proofs.Answers.{passes_append, passed, accepts}
use Rattle.refusal.proofs.Tests.{tests}
use Rattle.rfc2865.specs.Packet.{front_size, least_packet, most_packet, packet_length, header_refusals, run, packet_records, Packet, packet_refusals, packet_of, decoded}

pub record Headed (s : List ℕ) : Type 0 where
  pub front : front_size ≤ length s
  pub least : least_packet ≤ packet_length s
  pub most : packet_length s ≤ most_packet
  pub there : packet_length s ≤ length s

pub headed : (s : List ℕ) → passes (header_refusals s) ≡ true → Headed s
unfolding header_refusals
headed s e = let h = simp tests at e in search

pub header_passes : (s : List ℕ) → Headed s → passes (header_refusals s) ≡ true
unfolding header_refusals
header_passes s h = simp tests (search h)

pub record Accepted (room : ℕ) (s : List ℕ) (p : Packet) : Type 0 where
  pub header : Headed s
  pub tiled : tiles (run s) ≡ true
  pub fits : length (packet_records s) ≤ room
  pub packet_is : packet_of s ≡ p

pub when_accepted : (room : ℕ) (s : List ℕ) (p : Packet) → decoded room s ≡ accepted p → Accepted room s p
unfolding decoded packet_refusals packet_records
when_accepted room s p e =
    let q = passed (packet_refusals room s) (packet_of s) p e in
    let h = simp (passes_append, tests) at q.0 in
    search headed

pub is_accepted : (room : ℕ) (s : List ℕ) → Headed s → tiles (run s) ≡ true → length (packet_records s) ≤ room → decoded room s ≡ accepted (packet_of s)
unfolding decoded packet_refusals packet_records
is_accepted room s h tiled fits =
    let passes_header = header_passes s h in
    accepts (packet_refusals room s) (packet_of s) (simp (passes_append, tests) (search))
