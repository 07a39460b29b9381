-- What `writer::write` wrote, `diameter::parse` and `parse_by` accept, with the same codes, flags, vendors, data and padding at the top level as the
-- table's records of depth 1 (docs/FORMAT.md, 8.4). Between
-- the contracts stands the reading back of the definition (round_trip/proofs/ReadBack).
use Prim.Native.Nat.{ℕ, ◌≤◌}
use mathlib.Core.Path.{◌≡◌, sym, ap, ◌∙◌}
use mathlib.Core.Bool.{true}
use mathlib.Core.List.{List}
use lib.ListN.{length, take, drop}
use lib.Seq.{take_at}
use borrow.Author.Tests.{le-leb, le-ltb}
use contract.Lifetimes.{Lfts}
use Rattle.std.specs.Prelude.{Ok}
use Rattle.promises.proofs.Outcomes.{Decoded}
use Rattle.octets.specs.Octets.{Bytes, over}
use Rattle.octets.specs.Run.{Tree, tree, tiles, deepest}
use Rattle.refusal.specs.Answer.{accepted, passes}
use Rattle.rfc6733.specs.Header.{message_length, header_refusals}
use Rattle.rfc6733.specs.Dictionary.{Dictionary}
use Rattle.record.specs.Store.{capacity, output}
use Rattle.rfc6733.specs.Decoder.{allowed, message_body, message_records, message_refusals, message_of, decoded}
use Rattle.rfc6733.specs.Records.{avps}
use Rattle.record.specs.Forest.{forest}
use Rattle.record.specs.Table.{table_of, of_depth}
use Rattle.rfc6733.specs.Writer.{table_bytes}
use Rattle.refusal.proofs.Answers.{accepts, passes_append}
use Rattle.round_trip.specs.Tops.{tops, top_records, roots}
use Rattle.round_trip.proofs.Written.{written_writable}
use Rattle.round_trip.proofs.ReadBack.{read_back}
use Rattle.diameter.specs.declared.Message.{Message}
use Rattle.writer.specs.declared.Fields.{Fields}
use Rattle.writer.specs.Answers.{fields_as}
use Rattle.promises.proofs.OneOutcome.Calls.{Slice, MutSlice, Write}
use Rattle.promises.proofs.Ways.{Way, dictionary_of, Known, Decode, decodes}
use Rattle.promises.proofs.Acceptance.{AcceptedAs, accepted_as}

-- the run of a message's AVPs
abbrev pub run : Dictionary → List ℕ → Tree
run D s = tree (avps D) (message_body s)

-- where no refusal's test holds
is_accepted : (D : Dictionary) (limit room : ℕ) (s : List ℕ) → 1 ≤ limit → limit ≤ 64 → passes (header_refusals s) ≡ true
    → tiles (run D s) ≡ true → deepest (run D s) ≤ limit → length (message_records D s) ≤ room
    → decoded D limit room s ≡ accepted (message_of D s)
unfolding decoded message_refusals message_records allowed
is_accepted D limit room s low high header tiled shallow fits =
    accepts (message_refusals D limit room s) (message_of D s)
    (simp (
      le-leb 1 limit low,
      le-leb limit 64 high,
      passes_append,
      header,
      tiled,
      le-ltb limit (deepest (run D s)) shallow,
      le-ltb room (length (message_records D s)) fits,
    ))

same_length : (D : Dictionary) (s : List ℕ) (n : ℕ) (r : Decoded) (a : AcceptedAs r (message_of D s)) → message_length s ≡ n → a.message.length ≡ n
unfolding message_of
same_length D s n r a stated = a.length_is ∙ stated

-- r accepts the n bytes of the input, in which the records of depth 1 of the table stand
pub record ReadAs (D : Dictionary) (input table pool : List ℕ) (n : ℕ) (r : Decoded) : Type 0 where
  pub message : Message
  pub is_accepted : r ≡ Ok message
  pub length_is : message.length ≡ n
  pub same_tops : tops (run D input) ≡ top_records pool (forest (table_of table))
  pub depth_one : roots (forest (table_of table)) ≡ of_depth 1 (table_of table)

-- `write` wrote n bytes to the front of out', and these are the input of a decoder, whose limit and store hold what they read as.
-- `Bytes` is asked as in RoundTrip.
pub written_then_decoded : (κs : Lfts 3) (fields : Fields) (table pool : Slice) (out : MutSlice) (n : ℕ) (out' : MutSlice)
    (way : Way) (λs : Lfts 2) (limit : ℕ) (input : Slice) (store : MutSlice) (r : Decoded) (store' : MutSlice)
    → Write κs fields table pool out (Ok n) out' → Known way → Decode way λs limit input store r store' → Bytes table.now
    → input.now ≡ take n out'.now
    → 1 ≤ limit → limit ≤ 64 → deepest (run (dictionary_of way) input.now) ≤ limit
    → length (message_records (dictionary_of way) input.now) ≤ capacity (length store.now)
    → ReadAs (dictionary_of way) input.now table.now pool.now n r
unfolding over output
written_then_decoded κs fields table pool out n out' way λs limit input store r store' p known q bytes input-is low high shallow fits =
    let D = dictionary_of way in
    let f = fields_as fields in
    let s = table_bytes f table.now pool.now in
    let e = sym p.0 in
    let w = written_writable f table.now pool.now (length out.now) n e in
    let same : input.now ≡ s = input-is ∙ ap (take n) p.1 ∙ take_at s (drop (length s) out.now) n w.1 in
    let b = read_back D f table.now pool.now (length out.now) n bytes e in
    let yes = is_accepted D limit (capacity (length store.now)) input.now low high (rw same b.header) (rw same b.tiled) shallow fits in
    let a = accepted_as r (message_of D input.now) ((decodes way λs limit input store r store' known q).answer_is ∙ yes) in
    record {
      message = a.message;
      is_accepted = a.is_accepted;
      length_is = same_length D input.now n r a (rw same b.stated);
      same_tops = rw same b.same_tops;
      depth_one = b.depth_one;
    }
