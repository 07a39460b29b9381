-- `count_fitting` meets its contract: the places are tested first, what is counted of the run decides among its refusals, and past them the
-- records have room or not.
use mathlib.Core.Path.{◌∙◌}
use native.Mathlib.Omega.{arith}
use Rattle.refusal.proofs.AnswerOf.{handed_on}
use Rattle.count.proofs.Counts.{was_fitting}
use Rattle.fits.proofs.Fitted.{too_long, count_refused, no_records, has_room}
use Rattle.fits.proofs.count_fitting.Goals as goal

pub returns-then-place-s : goal.returns-then-place-s
returns-then-place-s c = too_long _ _ _ _ _ (omega (arith, c.if-place-s.true))

pub returns-in_err-sums : goal.returns-in_err-sums
returns-in_err-sums c =
    handed_on _ _ c.from_residual.ensures.1 ∙ count_refused _ _ _ _ _ (omega (arith, c.if-place-s.false)) _ c.in_err-sums.ensures

pub returns-then-room-sums : goal.returns-then-room-sums
returns-then-room-sums c =
    let sums = c.in_ok-sums.sums in
    no_records _ _ _ _ _ (omega (arith, c.if-place-s.false)) sums (was_fitting _ _ sums c.in_ok-sums.ensures) (omega arith)

pub returns : goal.returns
returns c =
    let sums = c.in_ok-sums.sums in
    has_room _ _ _ _ _ (omega (arith, c.if-place-s.false)) sums (was_fitting _ _ sums c.in_ok-sums.ensures) (omega arith)
