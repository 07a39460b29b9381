-- What the functions of the library are asked, and what the lent memory holds afterwards (docs/FORMAT.md, 7 and 8).
use Rattle.std.specs.Prelude.{ℕ, Bool, true, false, List, length, ℤ}
use Rattle.refusal.specs.Answer.{Answer, accepted, refused, answer_of}
use Rattle.refusal.specs.Refusals.{number_of}
use Rattle.rfc6733.specs.CreditControl.{edition_of}
use Rattle.rfc6733.specs.Decoder.{Message, decoded, message_records, avp_alone, alone_records}
use Rattle.record.specs.Counts.{Counts}
use Rattle.rfc6733.specs.Editions.{decoded_by, avp_alone_by}
use Rattle.record.specs.Store.{room, stored, output}
use Rattle.rfc6733.specs.Writer.{Fields, written, table_bytes}
use Rattle.steps.specs.declared.Stepped.{Stepped}
use Rattle.steps.specs.Steps.{found_of}
use Rattle.std.specs.declared.cmp.Ordering.{Ordering}
use Rattle.unit_value.specs.UnitValues.{compared}
use Rattle.attribute.specs.Attributes.{dictionary}
use Rattle.attribute.specs.declared.Reading.{Reading}
use Rattle.attribute.specs.declared.Reading.TheVariants.{Sawp, Rfc}
use Rattle.results.specs.Results.{written_result, found_result, sign_of}

unfoldable pub reading_of : Bool → Reading
reading_of true = Rfc
reading_of false = Sawp

unfoldable pub fields_given : ℕ → ℕ → ℕ → ℕ → ℕ → Fields
fields_given f c a h e = record { flags = f; code = c; app_id = a; hop_id = h; end_id = e }

-- a message or one AVP in a reading, with a depth limit and a lent store
abbrev pub message_asked : Bool → ℕ → List ℕ → List ℕ → Answer Message
message_asked rfc limit store input = decoded (dictionary (reading_of rfc)) limit (room store) input

abbrev pub avp_asked : Bool → ℕ → List ℕ → List ℕ → Answer Counts
avp_asked rfc limit store input = avp_alone (dictionary (reading_of rfc)) limit (room store) input

-- the same by an edition
abbrev pub message_asked_by : ℕ → ℕ → List ℕ → List ℕ → Answer Message
message_asked_by edition limit store input = decoded_by edition limit (room store) input

abbrev pub avp_asked_by : ℕ → ℕ → List ℕ → List ℕ → Answer Counts
avp_asked_by edition limit store input = avp_alone_by edition limit (room store) input

-- a table to be written, with a lent output
abbrev pub write_asked : Fields → List ℕ → List ℕ → List ℕ → Answer ℕ
write_asked f table pool out = written f table pool (length out)

-- and what is answered, by the header's five fields
abbrev pub write_result : ℕ → ℕ → ℕ → ℕ → ℕ → List ℕ → List ℕ → List ℕ → List ℕ
write_result f c a h e table pool out = written_result (write_asked (fields_given f c a h e) table pool out)

-- of a step, as of a message
abbrev pub step_result : Stepped → List ℕ
step_result s = found_result (answer_of (found_of s.found))

-- ---- what the lent memory holds afterwards

abbrev pub message_store : Bool → ℕ → List ℕ → List ℕ → List ℕ
message_store rfc limit store input =
    stored (message_asked rfc limit store input) (message_records (dictionary (reading_of rfc)) input) store

abbrev pub avp_store : Bool → ℕ → List ℕ → List ℕ → List ℕ
avp_store rfc limit store input = stored (avp_asked rfc limit store input) (alone_records (dictionary (reading_of rfc)) input) store

abbrev pub message_store_by : ℕ → ℕ → List ℕ → List ℕ → List ℕ
message_store_by edition limit store input = stored (message_asked_by edition limit store input) (message_records (edition_of edition) input) store

abbrev pub avp_store_by : ℕ → ℕ → List ℕ → List ℕ → List ℕ
avp_store_by edition limit store input = stored (avp_asked_by edition limit store input) (alone_records (edition_of edition) input) store

abbrev pub write_output : ℕ → ℕ → ℕ → ℕ → ℕ → List ℕ → List ℕ → List ℕ → List ℕ
write_output f c a h e table pool out =
    let fields = fields_given f c a h e in output (write_asked fields table pool out) (table_bytes fields table pool) out

-- ---- a comparison

-- by the digits and the exponent of each
unfoldable pub compared_given : ℤ → ℤ → ℤ → ℤ → Answer Ordering
compared_given d e d' e' = compared (record { digits = d; exponent = e }) (record { digits = d'; exponent = e' })

-- the answer's number
unfoldable pub number_shown : Answer Ordering → ℕ
number_shown (accepted o) = 0
number_shown (refused why) = number_of why

-- the order that was lent, afterwards
unfoldable pub order_shown : Answer Ordering → ℤ → ℤ
order_shown (accepted o) order = sign_of o
order_shown (refused why) order = order
