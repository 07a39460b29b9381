-- `refusal` meets its contract: its tests are the refusals of the definition, in their order. An AVP that passes all but the last is not
-- complete, so the last is its.
use Rattle.std.proofs.Common.{◌≡◌, ◌<◌, length}
use mathlib.Core.Path.{ap, ◌∙◌}
use native.Mathlib.Omega.{arith}
use Rattle.octets.proofs.Numbers.{read_at}
use Rattle.octets.proofs.Availability.{missing_of, at_hand_of}
use Rattle.refusal.specs.Answer.{refused}
use Rattle.rfc6733.specs.Avp.{avp_length, avp_size}
use Rattle.front.proofs.Fields.{Stated, stated, Padded, padded}
use Rattle.front.proofs.Refusals.{no_room, under_four, at_four, under_eight, length_under_eight, cut_off, length_under_header, padding_absent}
use Rattle.front.proofs.refusal.Goals.{After-be_u24-length, After-header_size_of-header_size, After-padding}
use Rattle.front.proofs.refusal.Goals as goal

-- ---- what was read is what the AVP states

length_read : (c : After-be_u24-length) → c.be_u24-length.result ≡ avp_length c.args.s.now
length_read c = read_at 3 _ 5 _ c.be_u24-length.ensures

sizes_read : (c : After-header_size_of-header_size) → Stated c.args.s.now c.be_u24-length.result c.header_size_of-header_size.result
sizes_read c = stated _ _ _ c.be_u24-length.ensures c.header_size_of-header_size.ensures

padding_found : (c : After-padding) → Padded c.args.s.now c.be_u24-length.result c.padding.result
padding_found c = padded _ _ _ _ (stated _ _ _ c.be_u24-length.ensures c.header_size_of-header_size.ensures) c.padding.ensures

-- ---- the last refusal

too_few : (c : After-padding) → length c.args.s.now < avp_size c.args.s.now
too_few c =
    let st = stated c.args.s.now _ _ c.be_u24-length.ensures c.header_size_of-header_size.ensures in
    no_room _ c.requires (omega arith) (omega arith)

-- ---- the goals

pub returns-then-available-lt-CODE_SIZE : goal.returns-then-available-lt-CODE_SIZE
returns-then-available-lt-CODE_SIZE c = under_four _ (omega arith)

pub returns-then-available-eq-CODE_SIZE : goal.returns-then-available-eq-CODE_SIZE
returns-then-available-eq-CODE_SIZE c = at_four _ (omega arith)

pub returns-then-available-lt-PRE_LENGTH_SIZE : goal.returns-then-available-lt-PRE_LENGTH_SIZE
returns-then-available-lt-PRE_LENGTH_SIZE c = under_eight _ (omega arith) (omega arith)

pub returns-then-length-lt-PRE_LENGTH_SIZE : goal.returns-then-length-lt-PRE_LENGTH_SIZE
returns-then-length-lt-PRE_LENGTH_SIZE c =
    let l = length_read (goal.at.returns-then-length-lt-PRE_LENGTH_SIZE c).After-be_u24-length in
    length_under_eight _ (omega arith) (omega arith)

pub returns-in-Err : goal.returns-in-Err
returns-in-Err c =
    let l = length_read (goal.at.returns-in-Err c).After-be_u24-length in
    let m = missing_of _ _ c.in-Err.ensures in
    ap refused c.from.ensures ∙ cut_off _ (omega arith) (omega arith) (omega (arith, m.fewer)) _ (omega (arith, m.missing))

pub returns-then-length-header_size : goal.returns-then-length-header_size
returns-then-length-header_size c =
    let st = sizes_read (goal.at.returns-then-length-header_size c).After-header_size_of-header_size in
    let all = at_hand_of _ _ c.in_default.ensures in
    length_under_header _ (omega arith) (omega arith) (omega (arith, all)) (omega arith)

pub overflow_add-result : goal.overflow_add-result
overflow_add-result c = omega (arith, padding_found (goal.at.overflow_add-result c).After-padding)

pub overflow_sub-result-2 : goal.overflow_sub-result-2
overflow_sub-result-2 c =
    let here = (goal.at.overflow_sub-result-2 c).After-padding in
    let p = padding_found here in
    omega (arith, too_few here)

pub returns : goal.returns
returns c =
    let here = (goal.at.returns c).After-padding in
    let st = stated c.args.s.now _ _ c.be_u24-length.ensures c.header_size_of-header_size.ensures in
    let p = padding_found here in
    let all = at_hand_of _ _ c.in_default.ensures in
    padding_absent _ (omega arith) (omega arith) (omega (arith, all)) (omega arith) (too_few here) _ (omega arith)
