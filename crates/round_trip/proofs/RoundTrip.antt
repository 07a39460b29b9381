-- Demand 2, the second half: decode, then write. A message that was accepted is written again, byte for byte, from its header's
-- fields and its records, with places that point into the message itself, by any lawful dictionary and in any room that holds it.
-- The header's numbers are written where they were read; the run of AVPs is `RunTrip`.
use Prim.Native.Nat.{ℕ, ◌+◌, ◌-◌, ◌≤◌}
use mathlib.Core.Path.{◌≡◌, refl, ap, ◌∙◌}
use mathlib.Core.List.{List}
use native.Mathlib.Omega.{arith}
use lib.ListN.{length, take, drop, length-drop}
use lib.Seq.{length-take-le, take-add}
use Rattle.octets.specs.Octets.{pack, Bytes}
use Rattle.octets.proofs.Layouts.{bytes_back}
use Rattle.octets.specs.Run.{tree}
use Rattle.octets.proofs.Numbers.{be_small}
use Rattle.refusal.specs.Answer.{accepted}
use Rattle.rfc6733.specs.Header.{header_size, header_layout, message_length, header_of}
use Rattle.rfc6733.specs.Dictionary.{Dictionary}
use Rattle.record.specs.Record.{laid}
use Rattle.rfc6733.specs.Records.{avps, records}
use Rattle.rfc6733.specs.Decoder.{Message, run_records, message_body, message_records, decoded}
use Rattle.record.specs.Forest.{Forest, flat}
use Rattle.record.specs.Table.{table_of, AllFit}
use Rattle.record.specs.Parents.{parented}
use Rattle.record.proofs.Parents.{parented_bare, parented_told}
use Rattle.rfc6733.specs.Writer.{forest_bytes, header_fields, message_bytes, table_bytes, most24, written}
use Rattle.rfc6733.proofs.Accepted.{Headed, when_accepted}
use Rattle.record.proofs.Layouts.{laid_length}
use Rattle.round_trip.specs.Trip.{fields_of, Lawful, forest_of}
use Rattle.octets.proofs.Held.{bytes_take, bytes_drop, holds_here}
use Rattle.record.proofs.Tables.{laid_read}
use Rattle.round_trip.proofs.Shape.{sound_valid, sound_read}
use Rattle.round_trip.proofs.AvpTrip.{Trip}
use Rattle.rfc6733.proofs.Demand3.{body_length}
use Rattle.round_trip.proofs.Unwritten.{parented_bytes, parented_valid}
use Rattle.round_trip.proofs.RunTrip.{flat_records, run_fits, trips}
use Rattle.round_trip.proofs.Written.{writable_written}

-- ---- the header

-- the two numbers that the writer sets itself, version and length, are those that were read
header_again : (s : List ℕ) → Bytes s → Headed s → pack (header_fields (fields_of (header_of s)) (message_length s)) ≡ take 20 s
unfolding fields_of header_of
header_again s b h = rw h.version at (bytes_back header_layout s refl (omega arith) b)

message_again : (s body : List ℕ) → Bytes s → Headed s → body ≡ message_body s → message_bytes (fields_of (header_of s)) body ≡ take (message_length s) s
unfolding message_bytes message_body
message_again s body b h e =
    let n = message_length s in
    let l = length-take-le (n - 20) (drop 20 s) (omega (arith, length-drop 20 s)) in
    let there : 20 + length body ≡ n = rw e (omega arith) in
    let all : 20 + (n - 20) ≡ n = omega arith in
    rw (there, e, header_again s b h) (rw (← take-add 20 (n - 20) s, all))

-- ---- the message

pub record WrittenAgain (D : Dictionary) (s : List ℕ) (room : ℕ) : Type 0 where
  pub accepts : written (fields_of (header_of s)) (laid (message_records D s)) s room ≡ accepted (message_length s)
  pub same_bytes : table_bytes (fields_of (header_of s)) (laid (message_records D s)) s ≡ take (message_length s) s

module _ (D : Dictionary) (lawful : Lawful D) (limit room : ℕ) (s : List ℕ) (m : Message) (bytes : Bytes s)
    (e : decoded D limit room s ≡ accepted m) where
  abbrev trees : Forest
  trees = forest_of D header_size 1 (tree (avps D) (message_body s))

  trip : Trip s 1 (message_body s) trees
  unfolding message_body
  trip =
      let a = when_accepted D limit room s m e in
      let h = a.header in
      let small = be_small 3 s 1 bytes in
      let n = message_length s - 20 in
      let there = length-drop 20 s in
      let l = length-take-le n (drop 20 s) (omega arith) in
      trips s D lawful (message_body s) 20 1 (omega arith) (omega arith) (bytes_take n (drop 20 s) (bytes_drop 20 s bytes)) (omega arith) (holds_here s 20 n)
      a.tiled

  pub records_fit : AllFit (message_records D s)
  unfolding message_records run_records
  records_fit =
      let small = be_small 3 s 1 bytes in
      run_fits D header_size (message_body s) trip (omega (arith, body_length s))

  -- the records in the table are those of the run
  table_is : table_of (laid (message_records D s)) ≡ parented (flat trees)
  unfolding message_records run_records
  table_is =
      let t = tree (avps D) (message_body s) in
      laid_read (message_records D s) records_fit ∙ parented_bare (records D header_size 1 t) ∙ ap parented (flat_records D header_size 1 t)

  same_message : table_bytes (fields_of (header_of s)) (laid (message_records D s)) s ≡ take (message_length s) s
  unfolding table_bytes
  same_message =
      let a = when_accepted D limit room s m e in
      rw (table_is, parented_bytes s (flat trees), sound_read (length s) 1 trees trip.sound_is) (message_again s (forest_bytes s trees) bytes a.header trip.is)

  code_small : (fields_of (header_of s)).code ≤ most24
  unfolding fields_of header_of
  code_small = let small = be_small 3 s 5 bytes in omega arith

  pub round_trip : (room' : ℕ) → message_length s ≤ room' → WrittenAgain D s room'
  round_trip room' fits =
      let a = when_accepted D limit room s m e in
      let h = a.header in
      let small = be_small 3 s 1 bytes in
      let table = laid (message_records D s) in
      let total : length (table_bytes (fields_of (header_of s)) table s) ≡ message_length s =
      rw same_message (length-take-le (message_length s) s h.there)
      in
      record {
        accepts =
            writable_written (fields_of (header_of s)) table s room'
            (record {
              code_fits = code_small;
              valid = rw table_is (parented_valid (length s) (flat trees) (sound_valid (length s) 1 trees trip.sound_is));
              told = rw table_is (parented_told (flat trees));
              none_cut = omega (arith, laid_length (message_records D s));
              short = omega arith;
              fits = omega arith;
            })
            ∙ ap accepted total;
        same_bytes = same_message;
      }
