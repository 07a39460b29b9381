-- A table that is not refused keeps the rules; and the packet, put with its attributes first and its header before them.
use Prim.Native.Nat.{ℕ, ◌+◌, ◌-◌, ◌/◌, ◌≤◌}
use mathlib.Core.Path.{◌≡◌}
use mathlib.Core.List.{List}
use native.Mathlib.Omega.{arith}
use lib.ListN.{length, drop}
use borrow.Rule.Slice.PartMut.{put_mid}
use Rattle.octets.specs.Octets.{over}
use Rattle.octets.proofs.Lists.{over_before, lent}
use Rattle.record.specs.Record.{record_size}
use Rattle.record.specs.Table.{table_of}
use Rattle.record.proofs.Tables.{table_length}
use Rattle.rfc2865.specs.Packet.{Header, authenticator_size, header_size}
use Rattle.rfc2865.specs.Writer.{keepers, run_bytes, header_bytes, packet_bytes, table_bytes}
use Rattle.radius_size.specs.Sizing.{lengths}
use Rattle.rfc2865.proofs.Lengths.{header_length}
use Rattle.rfc2865.proofs.Rules.{Kept, keepers_kept}
use Rattle.radius_writer.proofs.Lengths.{run_length}

pub all_kept : (n : ℕ) (table : List ℕ) → length table / record_size ≤ keepers n (table_of table) → Kept n (table_of table)
all_kept n table all = keepers_kept n (table_of table) (omega (arith, table_length table))

module _ (h : Header) (sixteen : length h.authenticator ≡ authenticator_size) (table pool : List ℕ)
    (keep : Kept (length pool) (table_of table)) where
  -- the attributes first, into the part after the header, and then the header
  pub packet_put : (before back : List ℕ) (n : ℕ) {last : List ℕ} → header_size ≤ length before
      → n ≡ header_size + lengths (table_of table)
      → back ≡ over (run_bytes pool (table_of table)) (drop header_size before)
      → last ≡ over (header_bytes h n) (put_mid header_size (length before - header_size) before back)
      → last ≡ over (table_bytes h table pool) before
  unfolding table_bytes packet_bytes
  packet_put before back n room n_is body put =
      let is : n ≡ header_size + length (run_bytes pool (table_of table)) = omega (arith, run_length pool (table_of table) keep) in
      rw (← is, put, lent header_size before back, body)
      (over_before (header_bytes h n) (run_bytes pool (table_of table)) before header_size (header_length h sixteen n) room)
