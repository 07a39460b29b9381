-- What reading a header answers, as an answer of the definition.
use Rattle.std.specs.Prelude.{Result}
use Rattle.refusal.specs.Answer.{Refusal, Answer, answer_by}
use Rattle.rfc6733.specs.Header as rfc
use Rattle.rfc6733.specs.Decoder.{Message}
use Rattle.header.specs.declared.Header.{Header}
use Rattle.header.specs.declared.Parsed.{Parsed}

-- a header of the code as one of the definition
unfoldable pub header_as : Header → rfc.Header
header_as h =
    record {
      version = h.version;
      length = h.length;
      flags = h.flags;
      code = h.code;
      app_id = h.app_id;
      hop_id = h.hop_id;
      end_id = h.end_id;
    }

-- no records, none tried, and 20 as the length
abbrev pub parsed_as : Parsed → Message
parsed_as p =
    record { header = header_as p.header; counts = record { errors = p.errors; records = 0; tried = 0; length = rfc.header_size } }

abbrev pub answer_of : Result Parsed Refusal → Answer Message
answer_of r = answer_by parsed_as r
