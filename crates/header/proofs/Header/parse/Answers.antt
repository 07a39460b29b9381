-- `Header::parse` meets its contract: its tests are the refusals of the definition, in their order, on the length that the header states.
-- Past them all 20 bytes are there, and the fields and the flags are those of the definition.
use Rattle.std.proofs.Common.{◌≡◌, ℕ, ◌≤◌, length, List}
use mathlib.Core.Path.{sym, ◌∙◌}
use native.Mathlib.Omega.{arith}
use Rattle.refusal.proofs.AnswerOf.{handed_on}
use Rattle.rfc6733.specs.Header.{message_length}
use Rattle.octets.proofs.Availability.{missing_of, at_hand_of}
use Rattle.octets.proofs.Numbers.{read_at}
use Rattle.header.specs.Parsed.{parsed_as}
use Rattle.header.proofs.HeaderAlone.{no_byte, other_version, under_four, length_under_four, cut_off, length_under_header, whole}
use Rattle.header.proofs.Header.parse.Goals.{After-be_u24-stated}
use Rattle.header.proofs.Header.parse.Goals as goal

-- the length that the code has read is the one that the header states
stated_is : (c : After-be_u24-stated) → c.be_u24-stated.result ≡ message_length c.args.input.now
stated_is c = read_at 3 _ 1 _ c.be_u24-stated.ensures

pub returns-in_err-length : goal.returns-in_err-length
returns-in_err-length c = handed_on parsed_as _ c.from_residual.ensures.1 ∙ no_byte _ _ (missing_of _ _ c.in_err-length.ensures)

pub returns-then-input-ne-VERSION : goal.returns-then-input-ne-VERSION
returns-then-input-ne-VERSION c = other_version _ (at_hand_of _ _ c.in_ok-length.ensures) c.if-input-ne-VERSION.true

pub returns-in_err-length-2 : goal.returns-in_err-length-2
returns-in_err-length-2 c =
    let some = at_hand_of _ _ c.in_ok-length.ensures in
    handed_on parsed_as _ c.from_residual-in_err-length-2.ensures.1
    ∙ under_four _ (omega arith) some _ (missing_of _ _ c.in_err-length-2.ensures)

pub returns-then-stated-lt-PRE_LENGTH_SIZE : goal.returns-then-stated-lt-PRE_LENGTH_SIZE
returns-then-stated-lt-PRE_LENGTH_SIZE c =
    let n = stated_is (goal.at.returns-then-stated-lt-PRE_LENGTH_SIZE c).After-be_u24-stated in
    let four = at_hand_of _ _ c.in_ok-length-2.ensures in
    length_under_four _ (omega arith) four (omega arith)

pub returns-in_err-length-3 : goal.returns-in_err-length-3
returns-in_err-length-3 c =
    let n = stated_is (goal.at.returns-in_err-length-3 c).After-be_u24-stated in
    let four = at_hand_of _ _ c.in_ok-length-2.ensures in
    let m = missing_of _ _ c.in_err-length-3.ensures in
    handed_on parsed_as _ c.from_residual-in_err-length-3.ensures.1
    ∙ cut_off _ (omega arith) four (omega arith) _ (record { fewer = omega (arith, m.fewer); missing = omega (arith, m.missing) })

pub returns-then-stated-lt-SIZE : goal.returns-then-stated-lt-SIZE
returns-then-stated-lt-SIZE c =
    let n = stated_is (goal.at.returns-then-stated-lt-SIZE c).After-be_u24-stated in
    let four = at_hand_of _ _ c.in_ok-length-2.ensures in
    let all = at_hand_of _ _ c.in_ok-length-3.ensures in
    length_under_header _ (omega arith) four (omega arith) (omega (arith, n, all)) (omega arith)

pub returns : goal.returns
returns c =
    let n = stated_is (goal.at.returns c).After-be_u24-stated in
    let four = at_hand_of _ _ c.in_ok-length-2.ensures in
    let all = at_hand_of _ _ c.in_ok-length-3.ensures in
    whole _ (omega arith) four (omega arith) (omega (arith, n, all)) (omega arith) _ _ c.fields-header.ensures c.error_flags.ensures
