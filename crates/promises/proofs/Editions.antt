-- Request E2's editions, of the functions themselves: BadEdition (12) is given by `parse_by` and `parse_avp_by` where the limit is allowed and
-- the number is no edition, and only there. `parse` and `parse_avp`, which take a reading, refuse by 1 to 7 as before, and no decoder gives
-- BadExponent (13). What the demands say of the editions is in Decoder, RoundTrip, ReadBack and Index, over both ways to decode.
use Prim.Native.Nat.{ℕ, ◌≤◌}
use mathlib.Core.Path.{◌≡◌, sym, ap, ◌∙◌}
use mathlib.Core.Bool.{true, false}
use mathlib.Core.Logic.{◌↔◌}
use contract.Lifetimes.{Lfts}
use Rattle.std.specs.Prelude.{Err}
use Rattle.promises.proofs.Outcomes.{Decoded, Filled}
use Rattle.refusal.specs.Answer.{Refusal, Answer, refused}
use Rattle.refusal.specs.Refusals.{number_of}
use Rattle.refusal.specs.declared.Refusal.TheVariants.{BadEdition}
use Rattle.rfc6733.specs.CreditControl.{is_edition}
use Rattle.rfc6733.specs.Decoder.{allowed}
use Rattle.rfc6733.proofs.Editions.{message_by_none, alone_by_none, message_bad_edition, alone_bad_edition}
use Rattle.rfc6733.proofs.Numbers.{message_numbers, alone_numbers, message_by_numbers, alone_by_numbers}
use Rattle.attribute.specs.declared.Reading.{Reading}
use Rattle.avps.specs.Answers as avps_answers
use Rattle.avps.proofs.AnswerOf as avps_answer_of
use Rattle.diameter.specs.Answers as diameter_answers
use Rattle.editions.specs.Editions.{no_edition}
use Rattle.diameter.proofs.AnswerOf as diameter_answer_of
use Rattle.promises.proofs.OneOutcome.Calls.{Slice, MutSlice, Parse, ParseAvp, ParseBy, ParseAvpBy}

-- the limit is allowed, and the number is no edition
abbrev pub NoEdition : ℕ → ℕ → Type 0
NoEdition limit n = (allowed limit ≡ true) × (is_edition n ≡ false)

bad_edition : {A : Type 0} (limit : ℕ) → allowed limit ≡ true → ◌≡◌ {A = Answer A} (refused (no_edition limit)) (refused BadEdition)
bad_edition limit ok = rw ok

pub parse_by_bad_edition : (κs : Lfts 2) (n limit : ℕ) (input : Slice) (store : MutSlice) (r : Decoded) (store' : MutSlice)
    → ParseBy κs n limit input store r store' → (r ≡ Err BadEdition) ↔ NoEdition limit n
parse_by_bad_edition κs n limit input store r store' p = (
  λ e. message_bad_edition n limit _ input.now (sym p.0 ∙ ap diameter_answers.answer_of e),
  λ h. diameter_answer_of.answer_of_injective r (Err BadEdition) (p.0 ∙ sym (message_by_none n limit _ input.now h.1) ∙ bad_edition limit h.0),
)

pub parse_avp_by_bad_edition : (κs : Lfts 2) (n limit : ℕ) (input : Slice) (store : MutSlice) (r : Filled) (store' : MutSlice)
    → ParseAvpBy κs n limit input store r store' → (r ≡ Err BadEdition) ↔ NoEdition limit n
parse_avp_by_bad_edition κs n limit input store r store' p = (
  λ e. alone_bad_edition n limit _ input.now (sym p.0 ∙ ap avps_answers.answer_of e),
  λ h. avps_answer_of.answer_of_injective r (Err BadEdition) (p.0 ∙ sym (alone_by_none n limit _ input.now h.1) ∙ bad_edition limit h.0),
)

-- ---- by which numbers

pub parse_numbers : (κs : Lfts 2) (reading : Reading) (limit : ℕ) (input : Slice) (store : MutSlice) (why : Refusal) (store' : MutSlice)
    → Parse κs reading limit input store (Err why) store' → number_of why ≤ 7
parse_numbers κs reading limit input store why store' p = message_numbers _ limit _ input.now why (sym p.0)

pub parse_avp_numbers : (κs : Lfts 2) (reading : Reading) (limit : ℕ) (input : Slice) (store : MutSlice) (why : Refusal) (store' : MutSlice)
    → ParseAvp κs reading limit input store (Err why) store' → number_of why ≤ 7
parse_avp_numbers κs reading limit input store why store' p = alone_numbers _ limit _ input.now why (sym p.0)

pub parse_by_numbers : (κs : Lfts 2) (n limit : ℕ) (input : Slice) (store : MutSlice) (why : Refusal) (store' : MutSlice)
    → ParseBy κs n limit input store (Err why) store' → number_of why ≤ 12
parse_by_numbers κs n limit input store why store' p = message_by_numbers n limit _ input.now why (sym p.0)

pub parse_avp_by_numbers : (κs : Lfts 2) (n limit : ℕ) (input : Slice) (store : MutSlice) (why : Refusal) (store' : MutSlice)
    → ParseAvpBy κs n limit input store (Err why) store' → number_of why ≤ 12
parse_avp_by_numbers κs n limit input store why store' p = alone_by_numbers n limit _ input.now why (sym p.0)
