-- `parse_body` meets its contract: the body that it lends is the run of the definition, so the message is refused as the body is, and
-- else accepted with the body's counts.
use Rattle.std.proofs.Common.{◌≤◌}
use mathlib.Core.Path.{◌∙◌}
use native.Mathlib.Omega.{arith}
use Rattle.record.specs.Record.{last_place}
use Rattle.record.specs.Store.{stored}
use Rattle.refusal.proofs.AnswerOf.{handed_on}
use Rattle.header.proofs.Bodies.{Body}
use Rattle.diameter.specs.Answers.{message_as}
use Rattle.diameter.proofs.Bodies.{body, refuses, accepts}
use Rattle.diameter.proofs.parse_body.Goals as goal
use Rattle.diameter.proofs.parse_body.Goals.{Start}

headed : (b : Start) → Body b.args.head b.args.input.now
headed b = body _ _ b.requires.headed

pub slice_bounds-body-count : goal.slice_bounds-body-count
slice_bounds-body-count c = let k = headed (goal.at.slice_bounds-body-count c).Start in omega (arith, k.length_is, k.facts.twenty)

pub slice_bounds-body-start : goal.slice_bounds-body-start
slice_bounds-body-start c = let k = headed (goal.at.slice_bounds-body-start c).Start in omega (arith, k.length_is, k.facts.twenty)

pub slice_bounds-body-end : goal.slice_bounds-body-end
slice_bounds-body-end c = let k = headed (goal.at.slice_bounds-body-end c).Start in omega (arith, k.length_is, k.facts.there)

-- the length has four bytes
short : (b : Start) → b.args.head.header.length ≤ last_place
short b = omega (arith, b.well_formed)

pub returns : goal.returns
returns c =
    let p = c.in_ok-counts.ensures in
    let w =
    accepts _ _ _ _ _ c.requires.limit_value c.requires.headed (short (goal.at.returns c).Start) c.in_ok-counts.counts p.answer _ _ p.store c.join.ensures
    in
    record { answer = w.0; store = w.1 }

pub returns-in_err-counts : goal.returns-in_err-counts
unfolding stored
returns-in_err-counts c =
    let p = c.in_err-counts.ensures in
    let handed = handed_on message_as _ c.from_residual.ensures.1 in
    record {
      answer =
          handed ∙ refuses _ _ _ _ _ c.requires.limit_value c.requires.headed (short (goal.at.returns-in_err-counts c).Start) _ p.answer;
      store = rw handed p.store;
    }
