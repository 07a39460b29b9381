-- The contracts of `parse` and `parse_by` name one outcome: what an acceptance returns is told by its fields, so the outcome can be read
-- back from its answer.
use mathlib.Core.Path.{◌≡◌, refl}
use Rattle.std.specs.Prelude.{Result}
use Rattle.refusal.specs.Answer.{Refusal}
use Rattle.refusal.proofs.AnswerOf.{answer_by_injective}
use Rattle.rfc6733.specs.Decoder as definition
use Rattle.header.specs.Parsed.{header_as}
use Rattle.header.proofs.AnswerOf.{header_back}
use Rattle.diameter.specs.declared.Message.{Message}
use Rattle.diameter.specs.Answers.{message_as, answer_of}

abbrev message_back : definition.Message → Message
message_back m =
    record {
      header = header_back m.header;
      errors = m.counts.errors;
      records = m.counts.records;
      tried = m.counts.tried;
      length = m.counts.length;
    }

message_is_back : (m : Message) → message_back (message_as m) ≡ m
unfolding message_as header_as
message_is_back m = refl

pub answer_of_injective : (r r' : Result Message Refusal) → answer_of r ≡ answer_of r' → r ≡ r'
answer_of_injective r r' e = answer_by_injective message_as message_back message_is_back r r' e
