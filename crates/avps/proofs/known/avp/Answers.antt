-- `known::avp` meets its contract: a complete AVP has the bytes of its header, and its fields are read from their words.
use Rattle.std.proofs.Common.{◌%◌}
use native.Mathlib.Omega.{arith}
use Rattle.octets.specs.Octets.{Bytes}
use Rattle.rfc6733.proofs.Complete.{complete_whole}
use Rattle.front.proofs.Fields.{Stated, stated_word, flags_of_word, Padded, padded, header_there, fields_are}
use Rattle.avps.proofs.known.avp.Goals.{After-header_size_of, After-padding}
use Rattle.avps.proofs.known.avp.Goals as goal

-- what was read is what the AVP states
sizes_read : (c : After-header_size_of) → Stated c.args.s.now (c.word-flags_length.result % 0x1000000) c.header_size_of.result
sizes_read c = stated_word _ _ _ (λ i. omega (arith, c.type_inv.s i)) c.word-flags_length.ensures c.header_size_of.ensures

padding_found : (c : After-padding) → Padded c.args.s.now (c.word-flags_length.result % 0x1000000) c.padding.result
padding_found c =
    padded _ _ _ _
    (stated_word _ _ _ (λ i. omega (arith, c.type_inv.s i)) c.word-flags_length.ensures c.header_size_of.ensures)
    c.padding.ensures

pub word-flags_length-requires : goal.word-flags_length-requires
word-flags_length-requires c = omega (arith, complete_whole _ c.requires)

pub word-requires : goal.word-requires
word-requires c = omega (arith, complete_whole _ c.requires)

pub vendor_id-requires : goal.vendor_id-requires
vendor_id-requires c = header_there _ (complete_whole _ c.requires)

pub overflow_sub-length : goal.overflow_sub-length
overflow_sub-length c =
    omega (arith, sizes_read (goal.at.overflow_sub-length c).After-header_size_of, complete_whole _ c.requires)

pub overflow_add-result : goal.overflow_add-result
overflow_add-result c = omega (arith, padding_found (goal.at.overflow_add-result c).After-padding)

pub returns : goal.returns
returns c =
    let bytes : Bytes c.args.s.now = λ i. omega (arith, c.type_inv.s i) in
    let st = stated_word _ _ _ bytes c.word-flags_length.ensures c.header_size_of.ensures in
    fields_are _ _ c.word.ensures (flags_of_word _ _ bytes c.word-flags_length.ensures) st.length_is c.vendor_id.ensures
    (padded _ _ _ _ st c.padding.ensures).size_is
