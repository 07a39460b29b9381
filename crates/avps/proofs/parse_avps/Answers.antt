-- `parse_avps` meets its contract: what is counted of the run decides between its refusal and an acceptance. A run that fits has all that
-- the fill asks for: a limit that is allowed is within the levels that the fill has.
use mathlib.Core.Path.{refl, sym, ◌∙◌}
use native.Mathlib.Omega.{arith}
use borrow.Author.Tests.{eqb-true}
use Rattle.refusal.proofs.AnswerOf.{handed_on}
use Rattle.record.specs.Store.{stored}
use Rattle.rfc6733.proofs.Decoded.{allowed_most}
use Rattle.fits.proofs.Fitted.{was_fitted}
use Rattle.avps.specs.Answers.{counts_as}
use Rattle.avps.proofs.Answered.{count_refused, accepts, stores}
use Rattle.avps.proofs.parse_avps.Goals as goal

pub fill_store-errors-requires : goal.fill_store-errors-requires
fill_store-errors-requires c =
    let f = was_fitted _ _ _ _ _ c.in_ok-records.field-0 c.in_ok-records.ensures in
    let k = f.counted in
    let most = allowed_most _ k.limit_is in
    record {
      s_value = k.tiled;
      room = record {
        records_fit = omega (arith, k.records_is, f.room_left);
        places_fit = f.near;
        indices_fit = omega arith;
        depths_fit = omega (arith, k.shallow);
        levels_fit = omega arith;
        all_tile = λ sure. sym k.tried_is ∙ sym (eqb-true _ _ sure) ∙ k.records_is;
      };
    }

pub returns : goal.returns
returns c =
    let f = was_fitted _ _ _ _ _ c.in_ok-records.field-0 c.in_ok-records.ensures in
    let filled = c.fill_store-errors.ensures in
    record { answer = accepts _ _ _ _ _ _ f _ filled.errors_are; store = stores _ _ _ _ _ _ _ filled }

pub returns-in_err-records : goal.returns-in_err-records
unfolding stored
returns-in_err-records c =
    let handed = handed_on counts_as _ c.from_residual.ensures.1 in
    record { answer = handed ∙ count_refused _ _ _ _ _ _ c.in_err-records.ensures; store = rw handed refl }
