-- `parse_in` meets its contract: the limit is tested first, then the header's refusals are the message's, and an accepted header leads
-- to `parse_body`, whose contract is the same.
use mathlib.Core.Path.{◌≡◌, refl, sym, ◌∙◌}
use mathlib.Core.Bool.{true}
use Rattle.rfc6733.specs.Decoder.{allowed}
use Rattle.record.specs.Store.{stored}
use Rattle.rfc6733.proofs.Decoded.{message_limit_bad, header_refused}
use Rattle.refusal.proofs.AnswerOf.{handed_on}
use Rattle.diameter.specs.Answers.{message_as}
use Rattle.diameter.proofs.parse_in.Goals as goal
use Rattle.diameter.proofs.parse_in.Goals.{After-parse}

-- the limit is allowed
within_limit : (c : After-parse) → allowed c.args.limit ≡ true
within_limit c = sym c.allowed.ensures ∙ c.if-not-allowed.false

pub returns-then-not-allowed : goal.returns-then-not-allowed
unfolding stored
returns-then-not-allowed c =
    record { answer = message_limit_bad _ _ _ _ (sym c.allowed.ensures ∙ c.if-not-allowed.true); store = refl }

pub parse_body-requires : goal.parse_body-requires
parse_body-requires c =
    record {
      limit_value = within_limit (goal.at.parse_body-requires c).After-parse;
      headed = record { is = c.in_ok-head.ensures };
    }

-- the header's refusal is the message's
pub returns-in_err-head : goal.returns-in_err-head
unfolding stored
returns-in_err-head c =
    let handed = handed_on message_as _ c.from_residual.ensures.1 in
    record {
      answer = handed ∙ header_refused _ _ _ _ (within_limit (goal.at.returns-in_err-head c).After-parse) _ c.in_err-head.ensures;
      store = rw handed refl;
    }
