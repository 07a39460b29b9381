-- Demand 2, the second half, of the functions themselves: what `diameter::parse` or `parse_by` accepted, `writer::write` gives back byte
-- for byte, from the header's fields, the records that the store holds and the message. Between the contracts stands the
-- round trip of the definition (round_trip/proofs/RoundTrip).
use Prim.Native.Nat.{ℕ, ◌*◌, ◌≤◌}
use mathlib.Core.Path.{◌≡◌, sym, ap, ◌∙◌}
use mathlib.Core.List.{List, ◌++◌}
use native.Mathlib.Omega.{arith}
use lib.ListN.{length, take}
use lib.Seq.{take_at}
use contract.Lifetimes.{Lfts}
use Rattle.std.specs.Prelude.{Ok}
use Rattle.promises.proofs.Outcomes.{Written}
use Rattle.octets.specs.Octets.{Bytes, over}
use Rattle.refusal.specs.Answer.{Answer, accepted}
use Rattle.refusal.specs.Answer as writers
use Rattle.rfc6733.specs.Header.{header_of, message_length}
use Rattle.rfc6733.specs.Dictionary.{Dictionary}
use Rattle.record.specs.Record.{record_size, laid}
use Rattle.rfc6733.specs.Decoder as definition
use Rattle.rfc6733.specs.Decoder.{run_counts, decoded, message_records, message_of}
use Rattle.record.specs.Store.{stored, output}
use Rattle.rfc6733.specs.Writer.{table_bytes}
use Rattle.rfc6733.proofs.Accepted.{when_accepted}
use Rattle.record.proofs.Layouts.{laid_length}
use Rattle.round_trip.specs.Trip.{fields_of}
use Rattle.round_trip.proofs.RoundTrip.{round_trip}
use Rattle.header.specs.Parsed.{header_as}
use Rattle.diameter.specs.declared.Message.{Message}
use Rattle.diameter.specs.Answers.{message_as}
use Rattle.writer.specs.declared.Fields.{Fields}
use Rattle.writer.specs.Answers.{fields_as}
use Rattle.refusal.proofs.AnswerOf.{answer_of_injective}
use Rattle.promises.proofs.OneOutcome.Calls.{Slice, MutSlice, Write}
use Rattle.promises.proofs.Ways.{Way, dictionary_of, Decode, accepts, lawful}

-- a message m of the bytes s, that was accepted by a dictionary and left in the store
pub record Left (D : Dictionary) (s : List ℕ) (m : Message) (store : List ℕ) : Type 0 where
  pub header_is : header_of s ≡ header_as m.header
  pub length_is : message_length s ≡ m.length
  pub records_counted : length (message_records D s) ≡ m.records
  pub records_are : take (m.records * record_size) store ≡ laid (message_records D s)

pub left : (D : Dictionary) (limit room : ℕ) (s : List ℕ) (m : Message) (store rest : List ℕ)
    → decoded D limit room s ≡ accepted (message_as m) → store ≡ laid (message_records D s) ++ rest → Left D s m store
unfolding message_of run_counts message_records message_as
left D limit room s m store rest e is =
    let a = when_accepted D limit room s (message_as m) e in
    let n : length (message_records D s) ≡ m.records = ap (λ (x : definition.Message). x.counts.records) a.message_is in
    let l = laid_length (message_records D s) in
    record {
      header_is = ap (λ (x : definition.Message). x.header) a.message_is;
      length_is = ap (λ (x : definition.Message). x.counts.length) a.message_is;
      records_counted = n;
      records_are = ap (take (m.records * record_size)) is ∙ take_at (laid (message_records D s)) rest (m.records * record_size) (omega arith);
    }

-- A decoder accepted m and left its records in store'; `write`, given m's header, those records and the input, answered r and left out'.
-- `Bytes` is true of every slice by its type; but `now` of a reference is a list of numbers, and that they are bytes is told only to a
-- function that reads through it. So it stands here.
pub decoded_then_written : (way : Way) (κs : Lfts 2) (limit : ℕ) (input : Slice) (store : MutSlice) (m : Message) (store' : MutSlice)
    (λs : Lfts 3) (fields : Fields) (table pool : Slice) (out : MutSlice) (r : Written) (out' : MutSlice)
    → Decode way κs limit input store (Ok m) store' → Write λs fields table pool out r out' → Bytes input.now
    → fields_as fields ≡ fields_of (header_as m.header)
    → table.now ≡ take (m.records * record_size) store'.now
    → pool.now ≡ input.now
    → m.length ≤ length out.now
    → (r ≡ Ok m.length) × (out'.now ≡ over (take m.length input.now) out.now)
unfolding stored output
decoded_then_written way κs limit input store m store' λs fields table pool out r out' p q bytes fields_are table_is pool-is room =
    let D = dictionary_of way in
    let says = accepts way κs limit input store m store' p in
    let e = sym says.answer_is in
    let l = left D _ _ input.now m store'.now _ e says.store_is in
    let again = round_trip D (lawful way) _ _ input.now (message_as m) bytes e (length out.now) (omega (arith, l.length_is)) in
    let f : fields_as fields ≡ fields_of (header_of input.now) = fields_are ∙ ap fields_of (sym l.header_is) in
    let t : table.now ≡ laid (message_records D input.now) = table_is ∙ l.records_are in
    let ok : writers.answer_of r ≡ accepted m.length = q.0 ∙ rw (f, t, pool-is) (again.accepts ∙ ap accepted l.length_is) in
    let same : table_bytes (fields_as fields) table.now pool.now ≡ take m.length input.now =
    rw (f, t, pool-is) (again.same_bytes ∙ ap (λ (n : ℕ). take n input.now) l.length_is)
    in (
      answer_of_injective r (Ok m.length) ok,
      q.1
          ∙ ap (λ (x : Answer ℕ). output x (table_bytes (fields_as fields) table.now pool.now) out.now) ok
          ∙ ap (λ (x : List ℕ). over x out.now) same,
    )
