-- The answer of the decoder of messages, as one of the definition.
use Rattle.std.specs.Prelude.{ℕ, ◌≡◌, List, Result, Ok}
use Rattle.refusal.specs.Answer.{Refusal, Answer, answer_by}
use Rattle.rfc6733.specs.Decoder as definition
use Rattle.record.specs.Store.{stored}
use Rattle.rfc6733.specs.Dictionary.{Dictionary}
use Rattle.header.specs.declared.Parsed.{Parsed}
use Rattle.header.specs.Parsed as header
use Rattle.header.specs.Parsed.{header_as}
use Rattle.diameter.specs.declared.Message.{Message}

-- a header that was accepted, with its error flags
pub record Headed (h : Parsed) (s : List ℕ) : Type 0 where
  pub is : header.answer_of (Ok h) ≡ definition.header_alone s

unfoldable pub message_as : Message → definition.Message
message_as m =
    record {
      header = header_as m.header;
      counts = record { errors = m.errors; records = m.records; tried = m.tried; length = m.length };
    }

abbrev pub answer_of : Result Message Refusal → Answer definition.Message
answer_of r = answer_by message_as r

-- the store afterwards
abbrev pub store_after : Dictionary → List ℕ → List ℕ → Result Message Refusal → List ℕ
store_after D input store r = stored (answer_of r) (definition.message_records D input) store
