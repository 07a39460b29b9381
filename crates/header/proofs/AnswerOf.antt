-- The contract of `Header::parse` names one outcome: a header is told by its seven fields, so the outcome can be read back from its answer.
use mathlib.Core.Path.{◌≡◌, refl}
use Rattle.std.specs.Prelude.{Result}
use Rattle.refusal.specs.Answer.{Refusal}
use Rattle.refusal.proofs.AnswerOf.{answer_by_injective}
use Rattle.rfc6733.specs.Header as rfc
use Rattle.rfc6733.specs.Decoder.{Message}
use Rattle.header.specs.declared.Header.{Header}
use Rattle.header.specs.declared.Parsed.{Parsed}
use Rattle.header.specs.Parsed.{header_as, parsed_as, answer_of}

abbrev pub header_back : rfc.Header → Header
header_back h =
    record {
      version = h.version;
      length = h.length;
      flags = h.flags;
      code = h.code;
      app_id = h.app_id;
      hop_id = h.hop_id;
      end_id = h.end_id;
    }

abbrev parsed_back : Message → Parsed
parsed_back m = record { header = header_back m.header; errors = m.counts.errors }

parsed_is_back : (p : Parsed) → parsed_back (parsed_as p) ≡ p
unfolding header_as
parsed_is_back p = refl

pub answer_of_injective : (r r' : Result Parsed Refusal) → answer_of r ≡ answer_of r' → r ≡ r'
answer_of_injective r r' e = answer_by_injective parsed_as parsed_back parsed_is_back r r' e
