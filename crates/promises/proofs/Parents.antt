-- Parents, of the functions themselves. The records that a decoder left in a store have the parents that their depths tell, and each member the
-- index of its group; at the top level they have the mark. In a table that `writer::write` accepts a parent is the one that the depths tell, and
-- a record of kind 8 that stands before its members. Of RADIUS every record has the mark. Between the contracts stand the laws of the
-- definition (rfc6733/proofs/Groups, round_trip/proofs/Members, rfc2865/proofs/TopLevel).
use Prim.Native.Nat.{ℕ}
use mathlib.Core.Path.{◌≡◌, sym, ap, ap₂, ◌∙◌}
use mathlib.Core.List.{List, [], ◌++◌}
use lib.ListN.{length}
use contract.Lifetimes.{Lfts}
use Rattle.std.specs.Prelude.{Ok}
use Rattle.octets.specs.Octets.{Bytes}
use Rattle.octets.specs.Run.{item, tree}
use Rattle.record.specs.Record.{Record, laid}
use Rattle.record.specs.Counts as definition
use Rattle.record.specs.Store.{stored}
use Rattle.record.specs.Table.{table_of, whole_records}
use Rattle.record.specs.Parents.{top_level, own_parents, told_parents}
use Rattle.record.proofs.Back.{Whole, records_back, every_back}
use Rattle.rfc6733.specs.Header.{header_size}
use Rattle.rfc6733.specs.Dictionary.{Dictionary}
use Rattle.rfc6733.specs.Records.{avps}
use Rattle.rfc6733.specs.Groups.{groups}
use Rattle.rfc6733.specs.Decoder.{run_records, run_counts, message_body, message_records, alone_records, alone_of}
use Rattle.rfc6733.proofs.Accepted.{when_alone}
use Rattle.rfc6733.proofs.Groups.{run_groups, run_told}
use Rattle.round_trip.specs.Members.{InGroups}
use Rattle.round_trip.proofs.Members.{in_groups}
use Rattle.round_trip.proofs.Written.{written_writable}
use Rattle.round_trip.proofs.Whole.{whole, alone_whole}
use Rattle.rfc2865.specs.Packet.{packet_records}
use Rattle.rfc2865.proofs.TopLevel.{AtTop, packet_top, written_top}
use Rattle.rfc2865.proofs.Whole as packets
use Rattle.avps.specs.declared.Counts.{Counts}
use Rattle.avps.specs.Answers as avps
use Rattle.diameter.specs.declared.Message.{Message}
use Rattle.diameter.specs.Answers.{message_as}
use Rattle.writer.specs.declared.Fields.{Fields}
use Rattle.writer.specs.Answers.{fields_as}
use Rattle.radius.specs.declared.Packet.{Packet}
use Rattle.radius.specs.Answers.{packet_as}
use Rattle.radius_writer.specs.declared.Fields as radius
use Rattle.radius_writer.specs.Answers.{header_as}
use Rattle.promises.proofs.OneOutcome.Calls.{Slice, MutSlice, Write, ParsePacket, WritePacket}
use Rattle.promises.proofs.Ways.{Way, dictionary_of, Decode, DecodeAlone, accepts, accepts_alone, lawful, address_small}
use Rattle.promises.proofs.RoundTrip.{left}
use Rattle.promises.proofs.Packets as of_packets

-- the records rs of the run s have the parents that their depths tell, and these are the indices of their groups
pub record Parented (D : Dictionary) (s : List ℕ) (rs : List Record) : Type 0 where
  pub by_depths : own_parents rs ≡ told_parents rs
  pub by_groups : own_parents rs ≡ groups top_level 0 (tree (avps D) s)

-- n records are read back from a store that starts with those of a run
parented_back : (D : Dictionary) (place : ℕ) (s : List ℕ) (n : ℕ) (store more : List ℕ) → length (run_records D place s) ≡ n
    → store ≡ laid (run_records D place s) ++ more → Whole (run_records D place s) → Parented D s (whole_records n store)
parented_back D place s n store more counted is w =
    rw (ap₂ whole_records (sym counted) is ∙ records_back (run_records D place s) more w)
    (record { by_depths = run_told D place s; by_groups = run_groups D place s })

-- ---- decoded

-- a decoder accepted m and left its records in store'. `Bytes` is asked as in RoundTrip
pub message_parented : (way : Way) (κs : Lfts 2) (limit : ℕ) (input : Slice) (store : MutSlice) (m : Message) (store' : MutSlice)
    → Decode way κs limit input store (Ok m) store' → Bytes input.now
    → Parented (dictionary_of way) (message_body input.now) (whole_records m.records store'.now)
unfolding stored message_records
message_parented way κs limit input store m store' p bytes =
    let D = dictionary_of way in
    let s = input.now in
    let says = accepts way κs limit input store m store' p in
    let e = sym says.answer_is in
    let l = left D _ _ s m store'.now _ e says.store_is in
    parented_back D header_size (message_body s) _ _ _ l.records_counted says.store_is
    (whole D (lawful way) (address_small way) _ _ s (message_as m) bytes e)

-- the same of one AVP alone
pub alone_parented : (way : Way) (κs : Lfts 2) (limit : ℕ) (input : Slice) (store : MutSlice) (c : Counts) (store' : MutSlice)
    → DecodeAlone way κs limit input store (Ok c) store' → Bytes input.now
    → let D = dictionary_of way in
    Parented D (item (avps D) input.now) (whole_records c.records store'.now)
unfolding avps.counts_as stored alone_of run_counts alone_records
alone_parented way κs limit input store c store' p bytes =
    let D = dictionary_of way in
    let s = input.now in
    let says = accepts_alone way κs limit input store c store' p in
    let e = sym says.answer_is in
    let counted : length (alone_records D s) ≡ c.records = ap (λ (x : definition.Counts). x.records) (when_alone D limit _ s _ e).counts_are in
    parented_back D 0 (item (avps D) s) _ _ _ counted says.store_is (alone_whole D (lawful way) (address_small way) _ _ s _ bytes e)

-- ---- written

-- `write` accepted a table
pub table_parented : (κs : Lfts 3) (fields : Fields) (table pool : Slice) (out : MutSlice) (n : ℕ) (out' : MutSlice)
    → Write κs fields table pool out (Ok n) out'
    → (own_parents (table_of table.now) ≡ told_parents (table_of table.now)) × InGroups [] (table_of table.now)
table_parented κs fields table pool out n out' p =
    let w = written_writable (fields_as fields) table.now pool.now (length out.now) n (sym p.0) in
    (w.0.told, in_groups (length pool.now) (table_of table.now) w.0.valid w.0.told)

-- ---- RADIUS

pub packet_at_top : (κs : Lfts 2) (input : Slice) (store : MutSlice) (p : Packet) (a : List ℕ) (store' : MutSlice)
    → ParsePacket κs input store (of_packets.accepts p a) store' → Bytes input.now → AtTop (whole_records p.records store'.now)
packet_at_top κs input store p a store' call bytes =
    let s = input.now in
    let l = of_packets.left κs input store p a store' call in
    every_back (λ r. r.parent ≡ top_level) (packet_records s) _ _ _ l.counted l.store_is
    (packets.whole _ s (packet_as a p) bytes l.answer_is)
    (packet_top s)

pub attributes_at_top : (κs : Lfts 3) (fields : radius.Fields) (table pool : Slice) (out : MutSlice) (n : ℕ) (out' : MutSlice)
    → WritePacket κs fields table pool out (Ok n) out' → AtTop (table_of table.now)
attributes_at_top κs fields table pool out n out' wrote =
    written_top (header_as fields) table.now pool.now (length out.now) n (sym wrote.0)
