-- The first AVP of a message with a given code, where no group is entered (docs/FORMAT.md, 7.7).
use Rattle.std.specs.Prelude.{ℕ, ◌+◌, Bool, true, false, cond, not, ◌&&◌, List, [], ◌∷◌, ◌++◌, length, eqb}
use Rattle.std.specs.Prelude.{Option, None, Some}
use Rattle.octets.specs.Run.{Tree, done, broken, plain, group, tree, tiles}
use Rattle.refusal.specs.Answer.{Answer, refuse, answer}
use Rattle.refusal.specs.declared.Refusal.TheVariants.{NotTiled}
use Rattle.record.specs.Outline.{Outline}
use Rattle.rfc6733.specs.Header.{header_size, header_refusals}
use Rattle.rfc6733.specs.Avp as avp
use Rattle.rfc6733.specs.Records.{unentered}
use Rattle.rfc6733.specs.Decoder.{message_body}

-- the outline of the AVP a, which stands at a place of the input
unfoldable pub outline : ℕ → List ℕ → Outline
outline place a =
    record {
      code = avp.code a;
      flags = avp.flags a;
      length = avp.avp_length a;
      vendor = avp.vendor a;
      place = place + avp.head_size (avp.flags a);
      padding = avp.padding (avp.data_size a);
      pads = avp.pads a;
    }

-- the outlines of a run's own AVPs, from its first up to its end or to the failing place. The run starts at a place of the input
abbrev pub outlines : ℕ → Tree → List Outline
outlines place done = []
outlines place broken = []
outlines place (plain a rest) = outline place a ∷ outlines (place + length a) rest
outlines place (group a inner rest) = outline place a ∷ outlines (place + length a) rest

-- the first of them with a code
abbrev pub first_with : ℕ → List Outline → Option Outline
first_with code [] = None
first_with code (o ∷ os) = cond (eqb o.code code) (Some o) (first_with code os)

abbrev pub is_none : Option Outline → Bool
is_none None = true
is_none (Some o) = false

-- by the code and the input: an AVP or none, refused as the header is, and where none stands before the failing place
unfoldable pub sought : ℕ → List ℕ → Answer (Option Outline)
sought code s =
    let t = tree unentered (message_body s) in
    let found = first_with code (outlines header_size t) in
    answer (header_refusals s ++ (refuse (is_none found && not (tiles t)) NotTiled ∷ [])) found
