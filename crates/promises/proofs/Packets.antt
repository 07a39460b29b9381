-- RADIUS, of the functions themselves: what `radius::parse` accepted, `radius_writer::write` gives back byte for byte; what `write` wrote, `parse`
-- accepts, with the same types, lengths and data; of what `parse` accepts, twice the attributes tried is at most the length less 20; and every
-- record of kind 0 in the store says where its text broke. Between the contracts stand the laws of the definition (rfc2865/proofs).
use Prim.Native.Nat.{ℕ, ◌+◌, ◌-◌, ◌*◌, ◌≤◌}
use mathlib.Core.Path.{◌≡◌, refl, sym, ap, ◌∙◌}
use mathlib.Core.List.{List, ◌++◌}
use native.Mathlib.Omega.{arith}
use lib.ListN.{length, take, drop}
use lib.Seq.{take_at}
use contract.Lifetimes.{Lfts}
use Rattle.std.specs.Prelude.{Ok, Err}
use Rattle.promises.proofs.Outcomes.{DecodedPacket, Written}
use Rattle.octets.specs.Octets.{Bytes, over}
use Rattle.refusal.specs.Answer.{Answer, accepted, answer_of}
use Rattle.refusal.proofs.Answers.{not_accepted}
use Rattle.record.specs.Record.{record_size, laid}
use Rattle.record.specs.Store.{room, stored, output}
use Rattle.record.specs.Table.{table_of, whole_records, Every}
use Rattle.record.proofs.Back.{every_back}
use Rattle.record.proofs.Layouts.{laid_length}
use Rattle.rfc2865.specs.Packet as definition
use Rattle.rfc2865.specs.Packet.{packet_length, Header, header_of, packet_records, packet_of, decoded, most_packet}
use Rattle.rfc2865.specs.Writer.{table_bytes}
use Rattle.rfc2865.specs.Seen.{seen}
use Rattle.rfc2865.specs.Broken.{TellsBreak}
use Rattle.rfc2865.specs.Extremal.{extremal}
use Rattle.rfc2865.proofs.Accepted.{when_accepted}
use Rattle.rfc2865.proofs.Bound.{attributes_tried, reached}
use Rattle.rfc2865.proofs.RoundTrip.{round_trip, records_seen}
use Rattle.rfc2865.proofs.ReadBack.{read_back}
use Rattle.rfc2865.proofs.Packets.{Sized}
use Rattle.rfc2865.proofs.Whole.{whole, every_tells}
use Rattle.radius.specs.declared.Packet.{Packet}
use Rattle.radius.specs.declared.Parsed.{Parsed}
use Rattle.radius.specs.Answers.{packet_as, answer_with}
use Rattle.radius_writer.specs.declared.Fields.{Fields}
use Rattle.radius_writer.specs.Answers.{header_as}
use Rattle.refusal.proofs.AnswerOf.{answer_of_injective}
use Rattle.promises.proofs.OneOutcome.Calls.{Slice, MutSlice, ParsePacket, WritePacket}

-- a packet that was accepted, with its authenticator
abbrev pub accepts : Packet → List ℕ → Parsed
accepts p a = record { decoded = Ok p; authenticator = a }

abbrev headed : Packet → List ℕ → Header
headed p a = record { code = p.code; identifier = p.identifier; authenticator = a }

-- ---- what an acceptance leaves

-- p was accepted of the bytes s with room for n records, and its records stand in the store
pub record Left (n : ℕ) (s : List ℕ) (p : Packet) (a store : List ℕ) : Type 0 where
  pub answer_is : decoded n s ≡ accepted (packet_as a p)
  header_is : header_of s ≡ headed p a
  length_is : packet_length s ≡ p.length
  pub counted : length (packet_records s) ≡ p.records
  pub rest : List ℕ
  pub store_is : store ≡ laid (packet_records s) ++ rest

pub left : (κs : Lfts 2) (input : Slice) (store : MutSlice) (p : Packet) (a : List ℕ) (store' : MutSlice)
    → ParsePacket κs input store (accepts p a) store' → Left (room store.now) input.now p a store'.now
unfolding packet_of stored
left κs input store p a store' call =
    let e = sym call.0 in
    let is = (when_accepted (room store.now) input.now (packet_as a p) e).packet_is in
    record {
      answer_is = e;
      header_is = ap (λ (x : definition.Packet). x.header) is;
      length_is = ap (λ (x : definition.Packet). x.counts.length) is;
      counted = ap (λ (x : definition.Packet). x.counts.records) is;
      rest = _;
      store_is = call.1.1;
    }

-- ---- decode, then write

-- `parse` accepted p and left its records in store'; `write`, given p's header, those records and the input, answered r and left out'.
-- `Bytes` is asked as in RoundTrip.
pub decoded_then_written : (κs : Lfts 2) (input : Slice) (store : MutSlice) (p : Packet) (a : List ℕ) (store' : MutSlice)
    (λs : Lfts 3) (fields : Fields) (table pool : Slice) (out : MutSlice) (r : Written) (out' : MutSlice)
    → ParsePacket κs input store (accepts p a) store' → WritePacket λs fields table pool out r out' → Bytes input.now
    → header_as fields ≡ headed p a
    → table.now ≡ take (p.records * record_size) store'.now
    → pool.now ≡ input.now
    → p.length ≤ length out.now
    → (r ≡ Ok p.length) × (out'.now ≡ over (take p.length input.now) out.now)
unfolding output
decoded_then_written κs input store p a store' λs fields table pool out r out' read wrote bytes fields_are table_is pool-is fits =
    let s = input.now in
    let l = left κs input store p a store' read in
    let again = round_trip (room store.now) s (packet_as a p) bytes l.answer_is (length out.now) (omega (arith, l.length_is)) in
    let h : header_as fields ≡ header_of s = fields_are ∙ sym l.header_is in
    let rs = packet_records s in
    let front = take_at (laid rs) l.rest (p.records * record_size) (omega (arith, laid_length rs, l.counted)) in
    let t : table.now ≡ laid rs = table_is ∙ ap (take (p.records * record_size)) l.store_is ∙ front in
    let ok : answer_of r ≡ accepted p.length = wrote.0 ∙ rw (h, t, pool-is) (again.accepts ∙ ap accepted l.length_is) in
    let same : table_bytes (header_as fields) table.now pool.now ≡ take p.length s =
    rw (h, t, pool-is) (again.same_bytes ∙ ap (λ (n : ℕ). take n s) l.length_is)
    in (
      answer_of_injective r (Ok p.length) ok,
      wrote.1
          ∙ ap (λ (x : Answer ℕ). output x (table_bytes (header_as fields) table.now pool.now) out.now) ok
          ∙ ap (λ (x : List ℕ). over x out.now) same,
    )

-- ---- write, then decode

-- r accepts n bytes of the input, with a header and with the types, lengths and data of a table
pub record ReadAs (input table pool : List ℕ) (h : Header) (n : ℕ) (r : Parsed) : Type 0 where
  pub packet : Packet
  pub is_accepted : r.decoded ≡ Ok packet
  pub length_is : packet.length ≡ n
  pub header_is : headed packet r.authenticator ≡ h
  pub same_seen : seen input (packet_records input) ≡ seen pool (table_of table)

-- an outcome whose answer is an acceptance holds a packet
record AcceptedAs (a : List ℕ) (d : DecodedPacket) (x : definition.Packet) : Type 0 where
  packet : Packet
  is_accepted : d ≡ Ok packet
  same : packet_as a packet ≡ x

accepted_as : (a : List ℕ) (d : DecodedPacket) (x : definition.Packet) → answer_with a d ≡ accepted x → AcceptedAs a d x
accepted_as a (Ok p) x e = record { packet = p; is_accepted = refl; same = cc }
accepted_as a (Err why) x e = absurd (not_accepted e)

-- `write` wrote n bytes to the front of out', and these are the input of `parse`, whose store holds as many records as the table has
pub written_then_decoded : (κs : Lfts 3) (fields : Fields) (table pool : Slice) (out : MutSlice) (n : ℕ) (out' : MutSlice)
    (λs : Lfts 2) (input : Slice) (store : MutSlice) (r : Parsed) (store' : MutSlice)
    → WritePacket κs fields table pool out (Ok n) out' → ParsePacket λs input store r store'
    → Sized (header_as fields) → Bytes input.now
    → input.now ≡ take n out'.now
    → length (table_of table.now) ≤ room store.now
    → ReadAs input.now table.now pool.now (header_as fields) n r
unfolding output over packet_of
written_then_decoded κs fields table pool out n out' λs input store r store' wrote read sized bytes input-is fits =
    let h = header_as fields in
    let s = table_bytes h table.now pool.now in
    let e = sym wrote.0 in
    let b = read_back h table.now pool.now (length out.now) n sized e in
    let same : input.now ≡ s = input-is ∙ ap (take n) wrote.1 ∙ take_at s (drop (length s) out.now) n b.length_is in
    let yes : decoded (room store.now) input.now ≡ accepted (packet_of input.now) = rw same (b.is_accepted (room store.now) fits) in
    let found = accepted_as r.authenticator r.decoded (packet_of input.now) (read.0 ∙ yes) in
    record {
      packet = found.packet;
      is_accepted = found.is_accepted;
      length_is = ap (λ (x : definition.Packet). x.counts.length) found.same ∙ rw same b.stated;
      header_is = ap (λ (x : definition.Packet). x.header) found.same ∙ rw same b.header_is;
      same_seen = records_seen (room store.now) input.now (packet_of input.now) bytes yes ∙ rw same b.same_seen;
    }

-- ---- the attributes tried

pub tried_of_the_decoder : (κs : Lfts 2) (input : Slice) (store : MutSlice) (p : Packet) (a : List ℕ) (store' : MutSlice)
    → ParsePacket κs input store (accepts p a) store' → (p.tried ≡ p.records) × (2 * p.tried ≤ p.length - 20)
tried_of_the_decoder κs input store p a store' call =
    let b = attributes_tried (room store.now) input.now (packet_as a p) (left κs input store p a store' call).answer_is in
    (b.own, b.twice)

-- r is an acceptance that reaches the bound with 20 + 2k bytes
pub record AtTheBound (k : ℕ) (r : Parsed) : Type 0 where
  pub packet : Packet
  pub is_accepted : r.decoded ≡ Ok packet
  pub length_is : packet.length ≡ 20 + 2 * k
  pub tried_is : 2 * packet.tried ≡ packet.length - 20

pub bound_is_reached : (κs : Lfts 2) (k : ℕ) (input : Slice) (store : MutSlice) (r : Parsed) (store' : MutSlice)
    → ParsePacket κs input store r store' → input.now ≡ extremal k → k ≤ room store.now → 20 + 2 * k ≤ most_packet → AtTheBound k r
bound_is_reached κs k input store r store' call is fits short =
    let b = reached (room store.now) k fits short in
    let yes = ap (decoded (room store.now)) is ∙ b.is_accepted in
    let found = accepted_as r.authenticator r.decoded (packet_of (extremal k)) (call.0 ∙ yes) in
    let l = ap (λ (x : definition.Packet). x.counts.length) found.same ∙ b.length_is in
    let n = ap (λ (x : definition.Packet). x.counts.tried) found.same ∙ b.tried_is in
    record { packet = found.packet; is_accepted = found.is_accepted; length_is = l; tried_is = omega arith }

-- ---- where text broke

pub each_tells_break : (κs : Lfts 2) (input : Slice) (store : MutSlice) (p : Packet) (a : List ℕ) (store' : MutSlice)
    → ParsePacket κs input store (accepts p a) store' → Bytes input.now
    → Every (TellsBreak input.now) (whole_records p.records store'.now)
each_tells_break κs input store p a store' call bytes =
    let s = input.now in
    let l = left κs input store p a store' call in
    every_back (TellsBreak s) (packet_records s) _ _ _ l.counted l.store_is
    (whole _ s (packet_as a p) bytes l.answer_is)
    (every_tells _ s (packet_as a p) bytes l.answer_is)
