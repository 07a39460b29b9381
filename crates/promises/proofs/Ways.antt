-- The ways to decode a message: `diameter::parse` in a reading, and `diameter::parse_by` with an edition; and in the same ways one AVP alone. A call of
-- either answers as the definition decodes by its dictionary, so what the demands say of one they say of both.
use Prim.Native.Nat.{ℕ}
use mathlib.Core.Path.{◌≡◌, sym, ◌∙◌}
use mathlib.Core.Bool.{true, false}
use mathlib.Core.List.{List, ◌++◌}
use contract.Lifetimes.{Lfts}
use Rattle.std.specs.Prelude.{Ok, Err}
use Rattle.promises.proofs.Outcomes.{Decoded, Filled}
use Rattle.octets.specs.Octets.{Bytes}
use Rattle.refusal.specs.Answer.{Refusal}
use Rattle.refusal.proofs.Answers.{among}
use Rattle.record.specs.Store.{room}
use Rattle.record.specs.Value.{Value}
use Rattle.rfc6733.specs.Dictionary.{Dictionary, family_address, bare_address, rfc, sawp}
use Rattle.rfc6733.specs.CreditControl.{rfc4006, rfc8506, is_edition, edition_of}
use Rattle.rfc6733.specs.Decoder.{limit_refusals, decoded, avp_alone}
use Rattle.rfc6733.specs.Editions.{edition_refusals}
use Rattle.rfc6733.proofs.CreditControl.{each_edition}
use Rattle.rfc6733.proofs.RunErrors.{Small, bare_small, family_small}
use Rattle.rfc6733.proofs.Breaks.{bare_silent, family_silent}
use Rattle.record.proofs.Breaks.{Silent}
use Rattle.rfc6733.proofs.Editions.{message_by, accepted_by, refused_by, alone_by, alone_accepted_by}
use Rattle.round_trip.specs.Trip.{Lawful}
use Rattle.round_trip.proofs.LeafKinds.{sawp_lawful, rfc_lawful, edition_lawful}
use Rattle.attribute.specs.declared.Reading.{Reading}
use Rattle.attribute.specs.declared.Reading.TheVariants.{Sawp, Rfc}
use Rattle.attribute.specs.Attributes.{dictionary}
use Rattle.diameter.specs.declared.Message.{Message}
use Rattle.avps.specs.declared.Counts.{Counts}
use Rattle.avps.specs.Answers as avps
use Rattle.diameter.specs.Answers.{answer_of, message_as, store_after}
use Rattle.avp_alone.specs.Answers.{store_after_avp}
use Rattle.promises.proofs.OneOutcome.Calls.{Slice, MutSlice, Parse, ParseAvp, ParseBy, ParseAvpBy}

pub data Way : Type 0 where
  reading : Reading → Way
  edition : ℕ → Way

abbrev pub dictionary_of : Way → Dictionary
dictionary_of (reading r) = dictionary r
dictionary_of (edition n) = edition_of n

-- the number is one of an edition
abbrev pub Known : Way → Type 0
Known (reading r) = Unit {0}
Known (edition n) = is_edition n ≡ true

-- a call, as the contract of its function says it
abbrev pub Decode : Way → Lfts 2 → ℕ → Slice → MutSlice → Decoded → MutSlice → Type 0
Decode (reading r) κs limit input store d store' = Parse κs r limit input store d store'
Decode (edition n) κs limit input store d store' = ParseBy κs n limit input store d store'

-- a call that answered r, of a slice that holds bytes: every slice does, but a theorem over calls stands outside of them (RoundTrip)
pub record Call (way : Way) (limit : ℕ) (r : Decoded) : Type 0 where
  pub lifetimes : Lfts 2
  pub input : Slice
  pub store : MutSlice
  pub store' : MutSlice
  pub answered : Decode way lifetimes limit input store r store'
  pub bytes : Bytes input.now

-- what it says, by its dictionary
pub record Decodes (D : Dictionary) (limit : ℕ) (input store : List ℕ) (d : Decoded) (store' : List ℕ) : Type 0 where
  pub answer_is : answer_of d ≡ decoded D limit (room store) input
  pub store_is : store' ≡ store_after D input store d

pub decodes : (way : Way) (κs : Lfts 2) (limit : ℕ) (input : Slice) (store : MutSlice) (d : Decoded) (store' : MutSlice) → Known way
    → Decode way κs limit input store d store' → Decodes (dictionary_of way) limit input.now store.now d store'.now
decodes (reading r) κs limit input store d store' known p = record { answer_is = p.0; store_is = p.1 }
decodes (edition n) κs limit input store d store' known p = record { answer_is = p.0 ∙ sym (message_by n limit _ input.now known); store_is = p.1 }

-- an acceptance is given only by an edition that is known
pub accepts : (way : Way) (κs : Lfts 2) (limit : ℕ) (input : Slice) (store : MutSlice) (m : Message) (store' : MutSlice)
    → Decode way κs limit input store (Ok m) store' → Decodes (dictionary_of way) limit input.now store.now (Ok m) store'.now
accepts (reading r) κs limit input store m store' p = decodes (reading r) κs limit input store (Ok m) store' tt p
accepts (edition n) κs limit input store m store' p =
    decodes (edition n) κs limit input store (Ok m) store' (accepted_by n limit _ input.now (message_as m) (sym p.0)) p

-- and so is a refusal for the bytes, which is neither that of the limit nor that of the edition
pub refuses : (way : Way) (κs : Lfts 2) (limit : ℕ) (input : Slice) (store : MutSlice) (why : Refusal) (store' : MutSlice)
    → ((n : ℕ) → among why (limit_refusals limit ++ edition_refusals n) ≡ false)
    → Decode way κs limit input store (Err why) store' → Decodes (dictionary_of way) limit input.now store.now (Err why) store'.now
refuses (reading r) κs limit input store why store' later p = decodes (reading r) κs limit input store (Err why) store' tt p
refuses (edition n) κs limit input store why store' later p =
    decodes (edition n) κs limit input store (Err why) store' (refused_by n limit _ input.now why (later n) (sym p.0)) p

-- ---- one AVP alone

abbrev pub DecodeAlone : Way → Lfts 2 → ℕ → Slice → MutSlice → Filled → MutSlice → Type 0
DecodeAlone (reading r) κs limit input store d store' = ParseAvp κs r limit input store d store'
DecodeAlone (edition n) κs limit input store d store' = ParseAvpBy κs n limit input store d store'

pub record DecodesAlone (D : Dictionary) (limit : ℕ) (input store : List ℕ) (d : Filled) (store' : List ℕ) : Type 0 where
  pub answer_is : avps.answer_of d ≡ avp_alone D limit (room store) input
  pub store_is : store' ≡ store_after_avp D input store d

pub accepts_alone : (way : Way) (κs : Lfts 2) (limit : ℕ) (input : Slice) (store : MutSlice) (c : Counts) (store' : MutSlice)
    → DecodeAlone way κs limit input store (Ok c) store'
    → DecodesAlone (dictionary_of way) limit input.now store.now (Ok c) store'.now
accepts_alone (reading r) κs limit input store c store' p = record { answer_is = p.0; store_is = p.1 }
accepts_alone (edition n) κs limit input store c store' p =
    let known = alone_accepted_by n limit _ input.now (avps.counts_as c) (sym p.0) in
    record { answer_is = p.0 ∙ sym (alone_by n limit _ input.now known); store_is = p.1 }

-- ---- the dictionaries

pub lawful : (way : Way) → Lawful (dictionary_of way)
unfolding dictionary
lawful (reading Sawp) = sawp_lawful
lawful (reading Rfc) = rfc_lawful
lawful (edition n) = edition_lawful n

-- an Address is read in one of two ways
by_address : (P : (List ℕ → Value) → Type 0) → P bare_address → P family_address → (way : Way) → P (dictionary_of way).as_address
unfolding dictionary sawp rfc rfc4006 rfc8506
by_address P bare family (reading Sawp) = bare
by_address P bare family (reading Rfc) = family
by_address P bare family (edition n) = each_edition (λ D. P D.as_address) family family family n

-- one that is read is a number of eight bytes at most, and one that is not has none
pub address_small : (way : Way) (s : List ℕ) → Small s ((dictionary_of way).as_address s)
address_small = by_address (λ read. (s : List ℕ) → Small s (read s)) bare_small family_small

pub address_silent : (way : Way) (s : List ℕ) → Silent ((dictionary_of way).as_address s)
address_silent = by_address (λ read. (s : List ℕ) → Silent (read s)) bare_silent family_silent
