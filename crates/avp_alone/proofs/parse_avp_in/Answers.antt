-- `parse_avp_in` meets its contract: the limit is tested first, then the refusals of what stands at the front, and a complete AVP leads
-- to `parse_one`, whose contract is the same.
use mathlib.Core.Path.{◌≡◌, refl, sym, ◌∙◌}
use mathlib.Core.Bool.{true}
use Rattle.rfc6733.specs.Decoder.{allowed}
use Rattle.record.specs.Store.{stored}
use Rattle.rfc6733.proofs.Decoded.{alone_limit_bad, front_refused}
use Rattle.front.specs.Front.{avp_of, parsed_of}
use Rattle.front.proofs.Fronts.{was_accepted, here}
use Rattle.refusal.proofs.AnswerOf.{handed_on}
use Rattle.avps.specs.Answers.{counts_as}
use Rattle.avp_alone.proofs.parse_avp_in.Goals as goal
use Rattle.avp_alone.proofs.parse_avp_in.Goals.{After-parse}

-- the limit is allowed
within_limit : (c : After-parse) → allowed c.args.limit ≡ true
within_limit c = sym c.allowed.ensures ∙ c.if-not-allowed.false

pub returns-then-not-allowed : goal.returns-then-not-allowed
unfolding stored
returns-then-not-allowed c =
    record { answer = alone_limit_bad _ _ _ _ (sym c.allowed.ensures ∙ c.if-not-allowed.true); store = refl }

pub parse_one-requires : goal.parse_one-requires
parse_one-requires c =
    let w = was_accepted _ _ c.in_ok-a.ensures in
    record {
      limit_value = within_limit (goal.at.parse_one-requires c).After-parse;
      complete = record { whole = w.0; size_is = (here _ _ w.1).size_is };
    }

-- the refusal of what stands at the front
pub returns-in_err-a : goal.returns-in_err-a
unfolding stored parsed_of
returns-in_err-a c =
    let handed = handed_on counts_as _ c.from_residual.ensures.1 in
    record {
      answer =
          handed
          ∙ front_refused _ _ _ _ (within_limit (goal.at.returns-in_err-a c).After-parse) (avp_of c.args.input.now) _ (sym c.in_err-a.ensures);
      store = rw handed refl;
    }
