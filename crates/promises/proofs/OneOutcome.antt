-- Every public function of every crate has one outcome: no second result meets its contract at the same arguments. `Post` is the
-- contract as the check reads it from the source, so a contract that says less no longer proves its line here.
pub mod Calls
mod ByHand
use Prim.Native.Nat.{ℕ}
use mathlib.Core.Path.{◌≡◌, sym, ap₂, ◌∙◌}
use mathlib.Core.Bool.{Bool}
use lib.IntN.{ℤ}
use contract.Lifetimes.{Lfts}
use denote.Ref.{MutBor}
use Rattle.attribute.specs.declared.Reading.{Reading}
use Rattle.attribute.specs.declared.Dictionary.{Dictionary}
use Rattle.header.specs.declared.Header.{Header}
use Rattle.record.specs.Record.{Record}
use Rattle.reader.specs.declared.Reader.{Reader}
use Rattle.writer.specs.declared.Fields.{Fields}
use Rattle.radius_writer.specs.declared.Fields as packet
use Rattle.promises.proofs.OneOutcome.Calls.{Slice, MutSlice, PutWord, PutLong, PutByteAndThree, Copy, PutPadding, PutHeader, PutHead, RecordPut, PutFound, PutPlaceAndParent, Clear, ParseAvps, Parse, ParseAvp, ParseBy, ParseAvpBy, Dump, Write, Shift, TandrekilyMessage, TandrekilyHeader, TandrekilyAvp, TandrekilyMessageBy, TandrekilyAvpBy, TandrekilyFind, TandrekilyNext, TandrekilyWrite, TandrekilyShift, TandrekilyCompare, ParseAttributes, ParsePacket, WritePacket, TandrekilyRadius, TandrekilyRadiusWrite}
use Rattle.promises.proofs.OneOutcome.ByHand.{ReaderNew, ReaderNext, ReaderFind}
use mir.Syntax.{w64}
use mir.Val.{Fits}
use Rattle.octets.proofs.be_u16.Reads as be_u16
use Rattle.octets.proofs.be_u24.Reads as be_u24
use Rattle.octets.proofs.be_u32.Reads as be_u32
use Rattle.octets.proofs.be_u64.Reads as be_u64
use Rattle.octets.proofs.to_be_u16.Reads as to_be_u16
use Rattle.octets.proofs.to_be_u24.Reads as to_be_u24
use Rattle.octets.proofs.to_be_u32.Reads as to_be_u32
use Rattle.octets.proofs.to_be_u64.Reads as to_be_u64
use Rattle.octets.proofs.at_hand.length.Reads as length
use Rattle.word.proofs.front.Reads as word_front
use Rattle.word.proofs.be_u32.Reads as word_be_u32
use Rattle.word.proofs.be_u64.Reads as word_be_u64
use Rattle.rfc3629.proofs.is_utf8_1.Reads as is_utf8_1
use Rattle.rfc3629.proofs.is_utf8_2.Reads as is_utf8_2
use Rattle.rfc3629.proofs.is_utf8_3.Reads as is_utf8_3
use Rattle.rfc3629.proofs.is_utf8_4.Reads as is_utf8_4
use Rattle.rfc3629.proofs.is_tail.Reads as is_tail
use Rattle.ascii.proofs.run.Reads as ascii_run
use Rattle.utf8.proofs.check.Reads as check
use Rattle.utf8.proofs.is_utf8.Reads as is_utf8
use Rattle.refusal.proofs.Refusal.number.Reads as number
use Rattle.refusal.proofs.Refusal.amount.Reads as amount
use Rattle.flags.proofs.raised.Reads as raised
use Rattle.flags.proofs.join.Reads as join
use Rattle.signed.proofs.signed_enumerated.Reads as signed_enumerated
use Rattle.signed.proofs.unix_seconds.Reads as unix_seconds
use Rattle.signed.proofs.integer32.Reads as integer32
use Rattle.signed.proofs.integer64.Reads as integer64
use Rattle.signed.proofs.magnitude.Reads as magnitude
use Rattle.unit_value.proofs.compare.Reads as compare
use Rattle.attribute.proofs.Attribute.new.Reads as attribute_new
use Rattle.attribute.proofs.Attribute.read.Reads as attribute_read
use Rattle.attribute.proofs.Reading.dictionary.Reads as reading_dictionary
use Rattle.attribute.proofs.kind_table.Reads as kind_table
use Rattle.attribute.proofs.Dictionary.kind.Reads as kind
use Rattle.editions.proofs.Edition.by_number.Reads as by_number
use Rattle.editions.proofs.no_edition.Reads as no_edition
use Rattle.editions.proofs.Edition.kind_table.Reads as edition_kind_table
use Rattle.header.proofs.Header.is_request.Reads as is_request
use Rattle.header.proofs.Header.is_proxiable.Reads as is_proxiable
use Rattle.header.proofs.Header.is_error.Reads as is_error
use Rattle.header.proofs.Header.is_potentially_retransmitted.Reads as is_potentially_retransmitted
use Rattle.header.proofs.Header.get_reserved.Reads as get_reserved
use Rattle.header.proofs.Header.length.Reads as header_length
use Rattle.header.proofs.Header.parse.Reads as header_parse
use Rattle.avp.proofs.AVP.vendor_specific_flag.Reads as vendor_specific_flag
use Rattle.avp.proofs.AVP.is_vendor_specific.Reads as is_vendor_specific
use Rattle.avp.proofs.AVP.is_mandatory.Reads as is_mandatory
use Rattle.avp.proofs.AVP.is_protected.Reads as is_protected
use Rattle.avp.proofs.AVP.get_reserved.Reads as avp_get_reserved
use Rattle.avp.proofs.AVP.header_size_of.Reads as header_size_of
use Rattle.avp.proofs.AVP.header_size.Reads as header_size
use Rattle.avp.proofs.AVP.padding.Reads as padding
use Rattle.front.proofs.first_avp.Reads as first_avp
use Rattle.front.proofs.parse.Reads as front_parse
use Rattle.front.proofs.pads.Reads as pads
use Rattle.front.proofs.tiles.Reads as tiles
use Rattle.steps.proofs.Step.answer.Reads as step_answer
use Rattle.steps.proofs.step_at.Reads as step_at
use Rattle.steps.proofs.find_from.Reads as find_from
use Rattle.reader.proofs.next.Reads as next
use Rattle.reader.proofs.find.Reads as find
use Rattle.record.proofs.Record.get.Reads as record_get
use Rattle.record.proofs.Record.read.Reads as record_read
use Rattle.address.proofs.IpAddr.number.Reads as address_number
use Rattle.address.proofs.bare.Reads as address_bare
use Rattle.address.proofs.after_family.Reads as address_after_family
use Rattle.value.proofs.Value.new.Reads as value_new
use Rattle.value.proofs.Value.new_known.Reads as value_new_known
use Rattle.value.proofs.Value.kind.Reads as value_kind
use Rattle.value.proofs.Value.number.Reads as value_number
use Rattle.count.proofs.allowed.Reads as allowed
use Rattle.count.proofs.count_run.Reads as count_run
use Rattle.fits.proofs.count_fitting.Reads as count_fitting
use Rattle.rules.proofs.header_size.Reads as record_header_size
use Rattle.rules.proofs.check.Reads as check_table
use Rattle.radius_rules.proofs.keepers.Reads as attribute_keepers
use Rattle.radius_size.proofs.size_run.Reads as size_run
use Rattle.writable.proofs.answer.Reads as writable_answer
use Rattle.radius_value.proofs.types.kind.Reads as type_kind
use Rattle.radius_value.proofs.read.Reads as attribute_value_read
use Rattle.results.proofs.of_message.Reads as of_message
use Rattle.results.proofs.of_header.Reads as of_header
use Rattle.results.proofs.of_avp.Reads as of_avp
use Rattle.results.proofs.of_written.Reads as of_written
use Rattle.results.proofs.of_shifted.Reads as of_shifted
use Rattle.results.proofs.of_found.Reads as of_found
use Rattle.results.proofs.sign_of.Reads as sign_of
use Rattle.results.proofs.packets.lay.Reads as packet_lay
use Rattle.results.proofs.packets.refused.Reads as packet_refused
use Rattle.results.proofs.packets.of_written.Reads as packet_of_written
use Rattle.tandrekily.proofs.tandrekily_is_utf8.Reads as tandrekily_is_utf8
use Rattle.tandrekily.proofs.tandrekily_utf8.Reads as tandrekily_utf8
use Rattle.tandrekily.proofs.tandrekily_unix_seconds.Reads as tandrekily_unix_seconds
use Rattle.tandrekily.proofs.tandrekily_integer32.Reads as tandrekily_integer32
use Rattle.tandrekily.proofs.tandrekily_integer64.Reads as tandrekily_integer64
use Rattle.refusal.proofs.AnswerOf.{answer_of_injective}
use Rattle.header.proofs.AnswerOf as header_answers
use Rattle.address.proofs.OneFound.{one_found}
use Rattle.value.proofs.ReadAs.{one_value}
use Rattle.avps.proofs.AnswerOf as avps_answers
use Rattle.diameter.proofs.AnswerOf as diameter_answers
use Rattle.writable.proofs.OneAnswer.{one_answer}
use Rattle.radius.proofs.AnswerOf as packet_answers
use Rattle.radius_value.proofs.ValueAs.{value_as_injective}

-- One outcome, where a function lends nothing that it may change: two results that meet the contract are the same. The arguments
-- stand with the lifetimes of the call, and with the parameters at exit.
abbrev Single {i j k l m} : {K : Type i} {A : K → Type j} {R : K → Type k} {S : K → Type l} → ((κs : K) → A κs → R κs → S κs → Type m) → Type (i ⊔ j ⊔ k ⊔ l ⊔ m)
Single {K = K} {A = A} {R = R} {S = S} Post = (κs : K) (a : A κs) (r r' : R κs) (s : S κs) → Post κs a r s → Post κs a r' s → r ≡ r'

-- And where it may change what is behind a reference, a slice or a struct: the results are the same, and what is there afterwards.
abbrev Settled : {R A : Type 0} → (R → MutBor A → Type 0) → Type 0
Settled {R = R} {A = A} Call = (r r' : R) (after after' : MutBor A) → Call r after → Call r' after' → (r ≡ r') × (after.now ≡ after'.now)

-- The library answers by a slice too: what each of the two holds afterwards is the same.
abbrev BothSettled : (MutSlice → MutSlice → Type 0) → Type 0
BothSettled Call =
    (after after' result result' : MutSlice) → Call after result → Call after' result' → (after.now ≡ after'.now) × (result.now ≡ result'.now)

-- ---- octets

be_u16_one : Single be_u16.Post
be_u16_one κs a r r' s p q = p.is ∙ sym q.is

be_u24_one : Single be_u24.Post
be_u24_one κs a r r' s p q = p.is ∙ sym q.is

be_u32_one : Single be_u32.Post
be_u32_one κs a r r' s p q = p.is ∙ sym q.is

be_u64_one : Single be_u64.Post
be_u64_one κs a r r' s p q = p.is ∙ sym q.is

to_be_u16_one : Single to_be_u16.Post
to_be_u16_one κs a r r' s p q = p ∙ sym q

to_be_u24_one : Single to_be_u24.Post
to_be_u24_one κs a r r' s p q = p ∙ sym q

to_be_u32_one : Single to_be_u32.Post
to_be_u32_one κs a r r' s p q = p ∙ sym q

to_be_u64_one : Single to_be_u64.Post
to_be_u64_one κs a r r' s p q = p ∙ sym q

length_one : Single length.Post
length_one κs a r r' s p q = p ∙ sym q

-- ---- word

word_front_one : (N : ℕ) (size : Fits w64 N) → Single (word_front.Post N size)
word_front_one N size κs a r r' s p q = p ∙ sym q

word_be_u32_one : Single word_be_u32.Post
word_be_u32_one κs a r r' s p q = p ∙ sym q

word_be_u64_one : Single word_be_u64.Post
word_be_u64_one κs a r r' s p q = p ∙ sym q

put_word_one : (κs : Lfts 1) (out : MutSlice) (v : ℕ) (after after' : MutSlice) → PutWord κs out v after → PutWord κs out v after' → after.now ≡ after'.now
put_word_one κs out v after after' p q = p ∙ sym q

put_long_one : (κs : Lfts 1) (out : MutSlice) (v : ℕ) (after after' : MutSlice) → PutLong κs out v after → PutLong κs out v after' → after.now ≡ after'.now
put_long_one κs out v after after' p q = p ∙ sym q

put_u8_u24_one : (κs : Lfts 1) (out : MutSlice) (high low : ℕ) (after after' : MutSlice) → PutByteAndThree κs out high low after
    → PutByteAndThree κs out high low after' → after.now ≡ after'.now
put_u8_u24_one κs out high low after after' p q = p ∙ sym q

-- ---- rfc3629, ascii and utf8

is_utf8_1_one : Single is_utf8_1.Post
is_utf8_1_one κs a r r' s p q = p ∙ sym q

is_utf8_2_one : Single is_utf8_2.Post
is_utf8_2_one κs a r r' s p q = p ∙ sym q

is_utf8_3_one : Single is_utf8_3.Post
is_utf8_3_one κs a r r' s p q = p ∙ sym q

is_utf8_4_one : Single is_utf8_4.Post
is_utf8_4_one κs a r r' s p q = p ∙ sym q

is_tail_one : Single is_tail.Post
is_tail_one κs a r r' s p q = p ∙ sym q

ascii_run_one : Single ascii_run.Post
ascii_run_one κs a r r' s p q = p ∙ sym q

check_one : Single check.Post
check_one κs a r r' s p q = p ∙ sym q

is_utf8_one : Single is_utf8.Post
is_utf8_one κs a r r' s p q = p ∙ sym q

-- ---- refusal

number_one : Single number.Post
number_one κs a r r' s p q = p ∙ sym q

amount_one : Single amount.Post
amount_one κs a r r' s p q = p ∙ sym q

-- ---- flags

raised_one : Single raised.Post
raised_one κs a r r' s p q = p ∙ sym q

join_one : Single join.Post
join_one κs a r r' s p q = p ∙ sym q

-- ---- signed

signed_enumerated_one : Single signed_enumerated.Post
signed_enumerated_one κs a r r' s p q = p ∙ sym q

unix_seconds_one : Single unix_seconds.Post
unix_seconds_one κs a r r' s p q = p ∙ sym q

integer32_one : Single integer32.Post
integer32_one κs a r r' s p q = p ∙ sym q

integer64_one : Single integer64.Post
integer64_one κs a r r' s p q = p ∙ sym q

magnitude_one : Single magnitude.Post
magnitude_one κs a r r' s p q = p ∙ sym q

-- ---- unit_value

compare_one : Single compare.Post
compare_one κs a r r' s p q = answer_of_injective r r' (p ∙ sym q)

-- ---- attribute

attribute_new_one : Single attribute_new.Post
attribute_new_one κs a r r' s p q = p ∙ sym q

attribute_read_one : Single attribute_read.Post
attribute_read_one κs a r r' s p q = p ∙ sym q

reading_dictionary_one : Single reading_dictionary.Post
reading_dictionary_one κs a r r' s p q = p ∙ sym q

kind_table_one : Single kind_table.Post
kind_table_one κs a r r' s p q = p ∙ sym q

kind_one : Single kind.Post
kind_one κs a r r' s p q = p ∙ sym q

-- ---- editions

by_number_one : Single by_number.Post
by_number_one κs a r r' s p q = p ∙ sym q

no_edition_one : Single no_edition.Post
no_edition_one κs a r r' s p q = p ∙ sym q

edition_kind_table_one : Single edition_kind_table.Post
edition_kind_table_one κs a r r' s p q = p ∙ sym q

-- ---- header

is_request_one : Single is_request.Post
is_request_one κs a r r' s p q = p ∙ sym q

is_proxiable_one : Single is_proxiable.Post
is_proxiable_one κs a r r' s p q = p ∙ sym q

is_error_one : Single is_error.Post
is_error_one κs a r r' s p q = p ∙ sym q

is_potentially_retransmitted_one : Single is_potentially_retransmitted.Post
is_potentially_retransmitted_one κs a r r' s p q = p ∙ sym q

get_reserved_one : Single get_reserved.Post
get_reserved_one κs a r r' s p q = p ∙ sym q

header_length_one : Single header_length.Post
header_length_one κs a r r' s p q = p ∙ sym q

header_parse_one : Single header_parse.Post
header_parse_one κs a r r' s p q = header_answers.answer_of_injective r r' (p ∙ sym q)

-- ---- avp

vendor_specific_flag_one : Single vendor_specific_flag.Post
vendor_specific_flag_one κs a r r' s p q = p ∙ sym q

is_vendor_specific_one : Single is_vendor_specific.Post
is_vendor_specific_one κs a r r' s p q = p ∙ sym q

is_mandatory_one : Single is_mandatory.Post
is_mandatory_one κs a r r' s p q = p ∙ sym q

is_protected_one : Single is_protected.Post
is_protected_one κs a r r' s p q = p ∙ sym q

avp_get_reserved_one : Single avp_get_reserved.Post
avp_get_reserved_one κs a r r' s p q = p ∙ sym q

header_size_of_one : Single header_size_of.Post
header_size_of_one κs a r r' s p q = p ∙ sym q

header_size_one : Single header_size.Post
header_size_one κs a r r' s p q = p ∙ sym q

padding_one : Single padding.Post
padding_one κs a r r' s p q = p ∙ sym q

-- ---- front

first_avp_one : Single first_avp.Post
first_avp_one κs a r r' s p q = p ∙ sym q

front_parse_one : Single front_parse.Post
front_parse_one κs a r r' s p q = answer_of_injective r r' (p ∙ sym q)

pads_one : Single pads.Post
pads_one κs a r r' s p q = p ∙ sym q

tiles_one : Single tiles.Post
tiles_one κs a r r' s p q = p ∙ sym q

-- ---- steps

step_answer_one : Single step_answer.Post
step_answer_one κs a r r' s p q = p ∙ sym q

step_at_one : Single step_at.Post
step_at_one κs a r r' s p q = p ∙ sym q

find_from_one : Single find_from.Post
find_from_one κs a r r' s p q = p ∙ sym q

-- ---- reader

reader_new_one : (message : Slice) (r r' : Reader) → ReaderNew message r → ReaderNew message r' → r ≡ r'
reader_new_one message r r' p q = whole (p.0 ∙ sym q.0) (p.1 ∙ sym q.1)
  where
    -- a reader is its payload and its place
    whole : r.payload ≡ r'.payload → r.place ≡ r'.place → r ≡ r'
    whole e f = ap₂ (λ (payload : Slice) (place : ℕ). record { payload = payload; place = place }) e f

reader_next_one : (self : MutBor Reader) → Settled (ReaderNext self)
reader_next_one self r r' after after' p q = (p.found_is ∙ sym q.found_is, p.reader_is ∙ sym q.reader_is)

reader_find_one : (self : MutBor Reader) (code : ℕ) → Settled (ReaderFind self code)
reader_find_one self code r r' after after' p q = (p.found_is ∙ sym q.found_is, p.reader_is ∙ sym q.reader_is)

next_one : Single next.Post
next_one κs a r r' s p q = p ∙ sym q

find_one : Single find.Post
find_one κs a r r' s p q = answer_of_injective r r' (p ∙ sym q)

-- ---- record

record_put_one : (κs : Lfts 1) (self : Record) (store : MutSlice) → Settled (RecordPut κs self store)
record_put_one κs self store r r' after after' p q = (p.0 ∙ sym q.0, p.1 ∙ sym q.1)

put_found_one : (κs : Lfts 1) (store : MutSlice) (kind errors value : ℕ) (after after' : MutSlice) → PutFound κs store kind errors value after
    → PutFound κs store kind errors value after' → after.now ≡ after'.now
put_found_one κs store kind errors value after after' p q = p ∙ sym q

put_place_and_parent_one : (κs : Lfts 1) (table : MutSlice) (place parent : ℕ) (after after' : MutSlice)
    → PutPlaceAndParent κs table place parent after → PutPlaceAndParent κs table place parent after' → after.now ≡ after'.now
put_place_and_parent_one κs table place parent after after' p q = p ∙ sym q

clear_one : (κs : Lfts 1) (store after after' : MutSlice) → Clear κs store after → Clear κs store after' → after.now ≡ after'.now
clear_one κs store after after' p q = p ∙ sym q

record_get_one : Single record_get.Post
record_get_one κs a r r' s p q = p ∙ sym q

record_read_one : Single record_read.Post
record_read_one κs a r r' s p q = p ∙ sym q

-- ---- address

address_number_one : Single address_number.Post
address_number_one κs a r r' s p q = p ∙ sym q

address_bare_one : Single address_bare.Post
address_bare_one κs a r r' s p q = one_found _ _ r r' p q

address_after_family_one : Single address_after_family.Post
address_after_family_one κs a r r' s p q = one_found _ _ r r' p q

-- ---- value

value_new_one : Single value_new.Post
value_new_one κs a r r' s p q = one_value _ _ r r' p q

value_new_known_one : Single value_new_known.Post
value_new_known_one κs a r r' s p q = one_value _ _ r r' p q

value_kind_one : Single value_kind.Post
value_kind_one κs a r r' s p q = p ∙ sym q

value_number_one : Single value_number.Post
value_number_one κs a r r' s p q = p ∙ sym q

-- ---- count

allowed_one : Single allowed.Post
allowed_one κs a r r' s p q = p ∙ sym q

count_run_one : Single count_run.Post
count_run_one κs a r r' s p q = answer_of_injective r r' (p ∙ sym q)

-- ---- fits

count_fitting_one : Single count_fitting.Post
count_fitting_one κs a r r' s p q = answer_of_injective r r' (p ∙ sym q)

-- ---- avps

parse_avps_one : (κs : Lfts 3) (d : Dictionary) (limit : ℕ) (s : Slice) (place : ℕ) (store : MutSlice)
    → Settled (ParseAvps κs d limit s place store)
parse_avps_one κs d limit s place store r r' after after' p q =
    let e = avps_answers.answer_of_injective r r' (p.0 ∙ sym q.0) in
    let at_exit = p.1 in
    let at_exit' = q.1 in
    (e, cc)

-- ---- diameter

parse_one : (κs : Lfts 2) (reading : Reading) (limit : ℕ) (input : Slice) (store : MutSlice) → Settled (Parse κs reading limit input store)
parse_one κs reading limit input store r r' after after' p q =
    let e = diameter_answers.answer_of_injective r r' (p.0 ∙ sym q.0) in
    let at_exit = p.1 in
    let at_exit' = q.1 in
    (e, cc)

parse_avp_one : (κs : Lfts 2) (reading : Reading) (limit : ℕ) (input : Slice) (store : MutSlice) → Settled (ParseAvp κs reading limit input store)
parse_avp_one κs reading limit input store r r' after after' p q =
    let e = avps_answers.answer_of_injective r r' (p.0 ∙ sym q.0) in
    let at_exit = p.1 in
    let at_exit' = q.1 in
    (e, cc)

parse_by_one : (κs : Lfts 2) (edition limit : ℕ) (input : Slice) (store : MutSlice) → Settled (ParseBy κs edition limit input store)
parse_by_one κs edition limit input store r r' after after' p q =
    let e = diameter_answers.answer_of_injective r r' (p.0 ∙ sym q.0) in
    let at_exit = p.1 in
    let at_exit' = q.1 in
    (e, cc)

parse_avp_by_one : (κs : Lfts 2) (edition limit : ℕ) (input : Slice) (store : MutSlice) → Settled (ParseAvpBy κs edition limit input store)
parse_avp_by_one κs edition limit input store r r' after after' p q =
    let e = avps_answers.answer_of_injective r r' (p.0 ∙ sym q.0) in
    let at_exit = p.1 in
    let at_exit' = q.1 in
    (e, cc)

-- ---- lines

dump_one : (κs : Lfts 2) (input : Slice) (out : MutSlice) → Settled (Dump κs input out)
dump_one κs input out r r' after after' p q = (p.1.0 ∙ sym q.1.0, p.0 ∙ sym q.0)

-- ---- rules

record_header_size_one : Single record_header_size.Post
record_header_size_one κs a r r' s p q = p ∙ sym q

check_table_one : Single check_table.Post
check_table_one κs a r r' s p q = p ∙ sym q

shift_one : (κs : Lfts 1) (table : MutSlice) (bytes records : ℕ) → Settled (Shift κs table bytes records)
shift_one κs table bytes records r r' after after' p q =
    let e = answer_of_injective r r' (p.0 ∙ sym q.0) in
    let at_exit = p.1 in
    let at_exit' = q.1 in
    (e, cc)

-- ---- writable, body, heads and writer

writable_answer_one : Single writable_answer.Post
writable_answer_one κs a r r' s p q = answer_of_injective r r' (one_answer _ _ _ _ _ _ p q)

copy_one : (κs : Lfts 2) (src : Slice) (dst : MutSlice) (after after' : MutSlice) → Copy κs src dst after → Copy κs src dst after' → after.now ≡ after'.now
copy_one κs src dst after after' p q = p ∙ sym q

put_padding_one : (κs : Lfts 1) (pads : ℕ) (out : MutSlice) (after after' : MutSlice) → PutPadding κs pads out after → PutPadding κs pads out after'
    → after.now ≡ after'.now
put_padding_one κs pads out after after' p q = p ∙ sym q

put_header_one : (κs : Lfts 1) (h : Header) (out : MutSlice) (after after' : MutSlice) → PutHeader κs h out after → PutHeader κs h out after'
    → after.now ≡ after'.now
put_header_one κs h out after after' p q = p ∙ sym q

put_head_one : (κs : Lfts 1) (r : Record) (n : ℕ) (out : MutSlice) (after after' : MutSlice) → PutHead κs r n out after → PutHead κs r n out after'
    → after.now ≡ after'.now
put_head_one κs r n out after after' p q = p ∙ sym q

write_one : (κs : Lfts 3) (fields : Fields) (table pool : Slice) (out : MutSlice) → Settled (Write κs fields table pool out)
write_one κs fields table pool out r r' after after' p q =
    let e = answer_of_injective r r' (p.0 ∙ sym q.0) in
    let at_exit = p.1 in
    let at_exit' = q.1 in
    (e, cc)

-- ---- radius_rules and radius_size

attribute_keepers_one : Single attribute_keepers.Post
attribute_keepers_one κs a r r' s p q = p ∙ sym q

size_run_one : Single size_run.Post
size_run_one κs a r r' s p q = p ∙ sym q

-- ---- radius_value, radius_attributes, radius and radius_writer

type_kind_one : Single type_kind.Post
type_kind_one κs a r r' s p q = p ∙ sym q

attribute_value_read_one : Single attribute_value_read.Post
attribute_value_read_one κs a r r' s p q = value_as_injective r r' (p ∙ sym q)

parse_attributes_one : (κs : Lfts 2) (s : Slice) (place : ℕ) (store : MutSlice) → Settled (ParseAttributes κs s place store)
parse_attributes_one κs s place store r r' after after' p q =
    let e = answer_of_injective r r' (p.0 ∙ sym q.0) in
    let at_exit = p.1 in
    let at_exit' = q.1 in
    (e, cc)

parse_packet_one : (κs : Lfts 2) (input : Slice) (store : MutSlice) → Settled (ParsePacket κs input store)
parse_packet_one κs input store r r' after after' p q =
    let e = packet_answers.answer_of_injective r r' (p.0 ∙ sym q.0) (p.1.0 ∙ sym q.1.0) in
    let at_exit = p.1.1 in
    let at_exit' = q.1.1 in
    (e, cc)

write_packet_one : (κs : Lfts 3) (fields : packet.Fields) (table pool : Slice) (out : MutSlice) → Settled (WritePacket κs fields table pool out)
write_packet_one κs fields table pool out r r' after after' p q =
    let e = answer_of_injective r r' (p.0 ∙ sym q.0) in
    let at_exit = p.1 in
    let at_exit' = q.1 in
    (e, cc)

-- ---- results

of_message_one : Single of_message.Post
of_message_one κs a r r' s p q = p ∙ sym q

of_header_one : Single of_header.Post
of_header_one κs a r r' s p q = p ∙ sym q

of_avp_one : Single of_avp.Post
of_avp_one κs a r r' s p q = p ∙ sym q

of_written_one : Single of_written.Post
of_written_one κs a r r' s p q = p ∙ sym q

of_shifted_one : Single of_shifted.Post
of_shifted_one κs a r r' s p q = p ∙ sym q

of_found_one : Single of_found.Post
of_found_one κs a r r' s p q = p ∙ sym q

sign_of_one : Single sign_of.Post
sign_of_one κs a r r' s p q = p ∙ sym q

packet_lay_one : Single packet_lay.Post
packet_lay_one κs a r r' s p q = p ∙ sym q

packet_refused_one : Single packet_refused.Post
packet_refused_one κs a r r' s p q = p ∙ sym q

packet_of_written_one : Single packet_of_written.Post
packet_of_written_one κs a r r' s p q = p ∙ sym q

-- ---- tandrekily

tandrekily_message_one : (κs : Lfts 3) (rfc : Bool) (limit : ℕ) (input : Slice) (store result : MutSlice)
    → BothSettled (TandrekilyMessage κs rfc limit input store result)
tandrekily_message_one κs rfc limit input store result _ _ _ _ p q = (p.1 ∙ sym q.1, p.0 ∙ sym q.0)

tandrekily_header_one : (κs : Lfts 2) (input : Slice) (result after after' : MutSlice) → TandrekilyHeader κs input result after
    → TandrekilyHeader κs input result after' → after.now ≡ after'.now
tandrekily_header_one κs input result after after' p q = p ∙ sym q

tandrekily_avp_one : (κs : Lfts 3) (rfc : Bool) (limit : ℕ) (input : Slice) (store result : MutSlice)
    → BothSettled (TandrekilyAvp κs rfc limit input store result)
tandrekily_avp_one κs rfc limit input store result _ _ _ _ p q = (p.1 ∙ sym q.1, p.0 ∙ sym q.0)

tandrekily_message_by_one : (κs : Lfts 3) (edition limit : ℕ) (input : Slice) (store result : MutSlice)
    → BothSettled (TandrekilyMessageBy κs edition limit input store result)
tandrekily_message_by_one κs edition limit input store result _ _ _ _ p q = (p.1 ∙ sym q.1, p.0 ∙ sym q.0)

tandrekily_avp_by_one : (κs : Lfts 3) (edition limit : ℕ) (input : Slice) (store result : MutSlice)
    → BothSettled (TandrekilyAvpBy κs edition limit input store result)
tandrekily_avp_by_one κs edition limit input store result _ _ _ _ p q = (p.1 ∙ sym q.1, p.0 ∙ sym q.0)

tandrekily_find_one : (κs : Lfts 2) (input : Slice) (code : ℕ) (result after after' : MutSlice) → TandrekilyFind κs input code result after
    → TandrekilyFind κs input code result after' → after.now ≡ after'.now
tandrekily_find_one κs input code result after after' p q = p ∙ sym q

tandrekily_next_one : (κs : Lfts 2) (message : Slice) (place : ℕ) (result : MutSlice) → Settled (TandrekilyNext κs message place result)
tandrekily_next_one κs message place result r r' after after' p q = (p.0 ∙ sym q.0, p.1 ∙ sym q.1)

tandrekily_write_one : (κs : Lfts 4) (flags code app_id hop_id end_id : ℕ) (table pool : Slice) (out result : MutSlice)
    → BothSettled (TandrekilyWrite κs flags code app_id hop_id end_id table pool out result)
tandrekily_write_one κs flags code app_id hop_id end_id table pool out result _ _ _ _ p q = (p.1 ∙ sym q.1, p.0 ∙ sym q.0)

tandrekily_shift_one : (κs : Lfts 2) (table : MutSlice) (bytes records : ℕ) (result : MutSlice) → BothSettled (TandrekilyShift κs table bytes records result)
tandrekily_shift_one κs table bytes records result _ _ _ _ p q = (p.1 ∙ sym q.1, p.0 ∙ sym q.0)

tandrekily_is_utf8_one : Single tandrekily_is_utf8.Post
tandrekily_is_utf8_one κs a r r' s p q = p ∙ sym q

tandrekily_utf8_one : Single tandrekily_utf8.Post
tandrekily_utf8_one κs a r r' s p q = p ∙ sym q

tandrekily_unix_seconds_one : Single tandrekily_unix_seconds.Post
tandrekily_unix_seconds_one κs a r r' s p q = p ∙ sym q

tandrekily_integer32_one : Single tandrekily_integer32.Post
tandrekily_integer32_one κs a r r' s p q = p ∙ sym q

tandrekily_integer64_one : Single tandrekily_integer64.Post
tandrekily_integer64_one κs a r r' s p q = p ∙ sym q

tandrekily_compare_one : (κs : Lfts 1) (digits exponent other_digits other_exponent : ℤ) (order : MutBor ℤ)
    → Settled (TandrekilyCompare κs digits exponent other_digits other_exponent order)
tandrekily_compare_one κs digits exponent other_digits other_exponent order r r' after after' p q = (p.0 ∙ sym q.0, p.1 ∙ sym q.1)

tandrekily_radius_one : (κs : Lfts 4) (input : Slice) (store authenticator result : MutSlice) (after after' given given' told told' : MutSlice)
    → TandrekilyRadius κs input store authenticator result after given told → TandrekilyRadius κs input store authenticator result after' given' told'
    → (after.now ≡ after'.now) × (given.now ≡ given'.now) × (told.now ≡ told'.now)
tandrekily_radius_one κs input store authenticator result after after' given given' told told' p q =
    (p.1.1 ∙ sym q.1.1, p.1.0 ∙ sym q.1.0, p.0 ∙ sym q.0)

tandrekily_radius_write_one : (κs : Lfts 5) (code identifier : ℕ) (authenticator table pool : Slice) (out result : MutSlice)
    → BothSettled (TandrekilyRadiusWrite κs code identifier authenticator table pool out result)
tandrekily_radius_write_one κs code identifier authenticator table pool out result _ _ _ _ p q = (p.1 ∙ sym q.1, p.0 ∙ sym q.0)
