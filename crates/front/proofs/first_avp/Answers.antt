-- `first_avp` meets its contract: an AVP is complete exactly where its 8 bytes are there, its length counts its header, and its
-- padded size is there. These are the three tests, and past them its fields are read.
use Rattle.std.proofs.Common.{◌%◌}
use native.Mathlib.Omega.{arith}
use Rattle.octets.specs.Octets.{Bytes}
use Rattle.rfc6733.proofs.Complete.{Whole}
use Rattle.front.proofs.Fields.{Stated, flags_of_word, stated_word, Padded, padded, header_there, fields_are}
use Rattle.front.proofs.Refusals.{not_complete, broken, whole}
use Rattle.front.proofs.first_avp.Goals.{After-header_size_of-header_size, After-padding, Else-available-size}
use Rattle.front.proofs.first_avp.Goals as goal

-- ---- what was read is what the AVP states

sizes_read : (c : After-header_size_of-header_size)
    → Stated c.args.s.now (c.word-flags_length.result % 0x1000000) c.header_size_of-header_size.result
sizes_read c = stated_word _ _ _ (λ i. omega (arith, c.type_inv.s i)) c.word-flags_length.ensures c.header_size_of-header_size.ensures

padding_found : (c : After-padding) → Padded c.args.s.now (c.word-flags_length.result % 0x1000000) c.padding.result
padding_found c =
    padded _ _ _ _
    (stated_word _ _ _ (λ i. omega (arith, c.type_inv.s i)) c.word-flags_length.ensures c.header_size_of-header_size.ensures)
    c.padding.ensures

-- past the three tests
complete_there : (c : Else-available-size) → Whole c.args.s.now
complete_there c =
    let bytes : Bytes c.args.s.now = λ i. omega (arith, c.type_inv.s i) in
    let st = stated_word _ _ _ bytes c.word-flags_length.ensures c.header_size_of-header_size.ensures in
    let p = padded _ _ _ _ st c.padding.ensures in
    record { eight = omega arith; long = omega arith; room = omega arith }

-- ---- the goals

pub returns-then-available-lt-PRE_LENGTH_SIZE : goal.returns-then-available-lt-PRE_LENGTH_SIZE
returns-then-available-lt-PRE_LENGTH_SIZE c = broken _ (not_complete _ (λ w. omega arith))

pub returns-then-length-header_size : goal.returns-then-length-header_size
returns-then-length-header_size c =
    let st = sizes_read (goal.at.returns-then-length-header_size c).After-header_size_of-header_size in
    broken _ (not_complete _ (λ w. omega arith))

pub overflow_add-size : goal.overflow_add-size
overflow_add-size c = omega (arith, padding_found (goal.at.overflow_add-size c).After-padding)

pub returns-then-available-size : goal.returns-then-available-size
returns-then-available-size c =
    let p = padding_found (goal.at.returns-then-available-size c).After-padding in
    broken _ (not_complete _ (λ w. omega arith))

pub vendor_id-requires : goal.vendor_id-requires
vendor_id-requires c = header_there _ (complete_there (goal.at.vendor_id-requires c).Else-available-size)

pub returns : goal.returns
returns c =
    let bytes : Bytes c.args.s.now = λ i. omega (arith, c.type_inv.s i) in
    let st = stated_word _ _ _ bytes c.word-flags_length.ensures c.header_size_of-header_size.ensures in
    let p = padded _ _ _ _ st c.padding.ensures in
    whole _ (complete_there (goal.at.returns c).Else-available-size) _
    (fields_are _ _ c.word.ensures (flags_of_word _ _ bytes c.word-flags_length.ensures) st.length_is c.vendor_id.ensures p.size_is)
