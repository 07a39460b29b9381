-- Every record of a packet has the mark of the top level, since each is made with it; and so has every record of a table that is
-- written, since a rule asks for it.
use Prim.Native.Nat.{ℕ, ◌+◌}
use mathlib.Core.Path.{◌≡◌, refl}
use mathlib.Core.List.{List, [], ◌∷◌}
use lib.ListN.{length}
use Rattle.octets.specs.Run.{items}
use Rattle.refusal.specs.Answer.{accepted}
use Rattle.record.specs.Record.{Record}
use Rattle.record.specs.Parents.{top_level}
use Rattle.record.specs.Table.{table_of, Every}
use Rattle.rfc2865.specs.Records.{record_of, records}
use Rattle.rfc2865.specs.Packet.{Header, header_size, run, packet_records}
use Rattle.rfc2865.specs.Writer.{written}
use Rattle.rfc2865.proofs.Rules.{Kept, keeps_good}
use Rattle.rfc2865.proofs.Written.{written_writable}

abbrev pub AtTop : List Record → Type 0
AtTop = Every (λ r. r.parent ≡ top_level)

records_top : (place : ℕ) (attributes : List (List ℕ)) → AtTop (records place attributes)
unfolding record_of
records_top place [] = tt
records_top place (a ∷ more) = (refl, records_top (place + length a) more)

pub packet_top : (s : List ℕ) → AtTop (packet_records s)
unfolding packet_records
packet_top s = records_top header_size (items (run s))

kept_top : (n : ℕ) (rs : List Record) → Kept n rs → AtTop rs
kept_top n [] k = tt
kept_top n (r ∷ rs) k = ((keeps_good n r k.0).parent_is, kept_top n rs k.1)

pub written_top : (h : Header) (table pool : List ℕ) (room n : ℕ) → written h table pool room ≡ accepted n → AtTop (table_of table)
written_top h table pool room n e = kept_top (length pool) (table_of table) (written_writable h table pool room n e).0.kept
