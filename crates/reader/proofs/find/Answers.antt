-- `find` meets its contract: the header's refusals are the answer's, and past them a fresh reader is asked over the message's own bytes.
use mathlib.Core.Path.{ap, ◌∙◌}
use native.Mathlib.Omega.{arith}
use lib.ListN.{length-take}
use Rattle.refusal.specs.Answer.{answer_of}
use Rattle.refusal.proofs.AnswerOf.{handed_on}
use Rattle.header.proofs.Bodies.{body}
use Rattle.steps.specs.Steps.{found_of}
use Rattle.reader.proofs.Answered.{asked, header_refused}
use Rattle.reader.proofs.find.Goals as goal

pub slice_bounds-ask-end : goal.slice_bounds-ask-end
slice_bounds-ask-end c =
    let s = c.args.input.now in
    let parsed = c.in_ok-length.field-0 in
    let b = body parsed s c.in_ok-length.ensures in
    omega (arith, b.length_is, b.facts.there, length-take parsed.header.length s)

pub returns : goal.returns
returns c =
    let b = body c.in_ok-length.field-0 c.args.input.now c.in_ok-length.ensures in
    ap answer_of (c.answer.ensures ∙ ap found_of c.ask.ensures) ∙ asked _ _ _ b

pub returns-in_err-length : goal.returns-in_err-length
returns-in_err-length c =
    handed_on _ _ c.from_residual.ensures.1 ∙ header_refused _ _ _ c.in_err-length.ensures
