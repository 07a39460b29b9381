-- A contract that says `answer_of r ≡ ..`, and what the authenticator is, names one outcome: its fields tell what was accepted.
use mathlib.Core.Path.{◌≡◌, refl, sym, ap, ap₂, ◌∙◌}
use Rattle.refusal.proofs.AnswerOf.{answer_by_injective}
use Rattle.rfc2865.specs.Packet as definition
use Rattle.radius.specs.declared.Packet.{Packet}
use Rattle.radius.specs.declared.Parsed.{Parsed}
use Rattle.radius.specs.Answers.{packet_as, answer_with, answer_of}

abbrev back : definition.Packet → Packet
back p =
    record {
      code = p.header.code;
      identifier = p.header.identifier;
      errors = p.counts.errors;
      records = p.counts.records;
      tried = p.counts.tried;
      length = p.counts.length;
    }

pub answer_of_injective : (r r' : Parsed) → answer_of r ≡ answer_of r' → r.authenticator ≡ r'.authenticator → r ≡ r'
answer_of_injective r r' e same =
    let one = e ∙ ap (λ a. answer_with a r'.decoded) (sym same) in
    let decoded = answer_by_injective (packet_as r.authenticator) back (λ p. refl) r.decoded r'.decoded one in
    ap₂ {C = Parsed} (λ x y. record { decoded = x; authenticator = y }) decoded same
