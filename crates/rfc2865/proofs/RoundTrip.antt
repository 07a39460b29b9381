-- Decode, then write: a packet that was accepted is written again, byte for byte, from its header and its records, with places that point
-- into the packet itself, in any room that holds it. The header's numbers are written where they were read; the attributes are `RunTrip`.
use Prim.Native.Nat.{ℕ, ◌+◌, ◌-◌, ◌≤◌}
use mathlib.Core.Path.{◌≡◌, refl, ap, ◌∙◌}
use mathlib.Core.List.{List, map}
use native.Mathlib.Omega.{arith}
use lib.ListN.{length, take, drop, length-drop}
use lib.Seq.{length-take-le, take-add}
use Rattle.octets.specs.Octets.{Bytes}
use Rattle.octets.specs.Run.{items}
use Rattle.octets.proofs.Layouts.{bytes_back}
use Rattle.octets.proofs.Held.{bytes_take, bytes_drop, holds_here}
use Rattle.refusal.specs.Answer.{accepted}
use Rattle.record.specs.Record.{Record, laid}
use Rattle.record.specs.Table.{bare, table_of, Every, Fits, AllFit}
use Rattle.record.proofs.Layouts.{laid_length}
use Rattle.record.proofs.Tables.{laid_read}
use Rattle.rfc2865.specs.Packet.{front_layout, front_size, authenticator_size, header_size, packet_length, header_of, packet_body, run, packet_records, Packet, decoded}
use Rattle.rfc2865.specs.Records.{record_of}
use Rattle.rfc2865.specs.Seen.{seen_in, seen}
use Rattle.rfc2865.specs.Writer.{header_bytes, packet_bytes, table_bytes, written, run_bytes}
use Rattle.rfc2865.proofs.Accepted.{Headed, when_accepted}
use Rattle.rfc2865.proofs.AttributeTrip.{Stands, fits_bytes}
use Rattle.rfc2865.proofs.RunTrip.{AllStand, all_stand, every, all_kept, all_seen, same_run}
use Rattle.rfc2865.proofs.Written.{writable_written}

-- ---- the header

header_again : (s : List ℕ) → Bytes s → Headed s → header_bytes (header_of s) (packet_length s) ≡ take header_size s
unfolding header_bytes header_of
header_again s b h =
    let front = bytes_back front_layout s refl (omega (arith, h.front)) b in
    rw front (rw (← take-add front_size authenticator_size s))

packet_again : (s body : List ℕ) → Bytes s → Headed s → body ≡ packet_body s → packet_bytes (header_of s) body ≡ take (packet_length s) s
unfolding packet_bytes packet_body
packet_again s body b h e =
    let n = packet_length s in
    let rest = n - header_size in
    let l = length-take-le rest (drop header_size s) (omega (arith, length-drop header_size s, h.there)) in
    let there : header_size + length body ≡ n = rw e (omega (arith, h.least)) in
    let all : header_size + rest ≡ n = omega (arith, h.least) in
    rw (there, e, header_again s b h) (rw (← take-add header_size rest s, all))

-- ---- the packet

pub record WrittenAgain (s : List ℕ) (room : ℕ) : Type 0 where
  pub accepts : written (header_of s) (laid (packet_records s)) s room ≡ accepted (packet_length s)
  pub same_bytes : table_bytes (header_of s) (laid (packet_records s)) s ≡ take (packet_length s) s

module _ (room : ℕ) (s : List ℕ) (p : Packet) (bytes : Bytes s) (e : decoded room s ≡ accepted p) where
  pub standing : AllStand s header_size (items (run s))
  unfolding packet_body
  standing =
      let a = when_accepted room s p e in
      let h = a.header in
      let n = packet_length s - header_size in
      let l = length-take-le n (drop header_size s) (omega (arith, length-drop header_size s, h.there)) in
      all_stand s (packet_body s) header_size (bytes_take n (drop header_size s) (bytes_drop header_size s bytes)) (holds_here s header_size n)
      (omega (arith, h.least, h.most))
      a.tiled

  -- what holds of the record of each attribute that stands in the packet holds of its records
  pub every_record : (P : Record → Type 0) → ((place : ℕ) (a : List ℕ) → Stands s place a → P (record_of place a)) → Every P (packet_records s)
  unfolding packet_records
  every_record P one = every s P one (items (run s)) header_size standing

  pub records_seen : seen s (packet_records s) ≡ map seen_in (items (run s))
  unfolding packet_records
  records_seen = all_seen s (items (run s)) header_size standing

  pub records_fit : AllFit (packet_records s)
  records_fit = every_record Fits (fits_bytes s)

  table_is : table_of (laid (packet_records s)) ≡ map bare (packet_records s)
  table_is = laid_read (packet_records s) records_fit

  same_packet : table_bytes (header_of s) (laid (packet_records s)) s ≡ take (packet_length s) s
  unfolding table_bytes packet_records
  same_packet =
      let a = when_accepted room s p e in
      rw table_is (packet_again s (run_bytes s (map bare (packet_records s))) bytes a.header (same_run s (packet_body s) header_size a.tiled standing))

  pub round_trip : (room' : ℕ) → packet_length s ≤ room' → WrittenAgain s room'
  unfolding packet_records
  round_trip room' fits =
      let h = (when_accepted room s p e).header in
      let table = laid (packet_records s) in
      let total : length (table_bytes (header_of s) table s) ≡ packet_length s = rw same_packet (length-take-le (packet_length s) s h.there) in
      record {
        accepts =
            writable_written (header_of s) table s room'
            (record {
              kept = rw table_is (all_kept s (items (run s)) header_size standing);
              none_cut = omega (arith, laid_length (packet_records s));
              short = omega (arith, h.most);
              fits = omega arith;
            })
            ∙ ap accepted total;
        same_bytes = same_packet;
      }
