-- What reading the AVP at the front of a slice answers, as an answer of the definition.
use Rattle.std.specs.Prelude.{ℕ, cond, List, Option, Some, None}
use Rattle.refusal.specs.Answer.{Answer, answer}
use Rattle.rfc6733.specs.Avp as rfc
use Rattle.avp.specs.declared.AVP.{AVP}

-- the fields of the AVP at the front
unfoldable pub avp_of : List ℕ → AVP
avp_of s =
    record {
      code = rfc.code s;
      flags = rfc.flags s;
      length = rfc.avp_length s;
      vendor_id = rfc.vendor s;
      size = rfc.avp_size s;
    }

-- the AVP at the front, if it is complete
unfoldable pub first_of : List ℕ → Option AVP
first_of s = cond (rfc.complete s) (Some (avp_of s)) None

-- the AVP alone, without what its data are
unfoldable pub parsed_of : List ℕ → Answer AVP
parsed_of s = answer (rfc.avp_refusals s) (avp_of s)
