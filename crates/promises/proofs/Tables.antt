-- What is known of a call of a decoder that accepted: what it says of the message, and the records that it left, read
-- back whole.
use Prim.Native.Nat.{ℕ, ◌≤◌}
use mathlib.Core.Path.{◌≡◌, sym, ap₂, ◌∙◌}
use mathlib.Core.List.{List}
use contract.Lifetimes.{Lfts}
use Rattle.std.specs.Prelude.{Ok}
use Rattle.octets.specs.Octets.{Bytes}
use Rattle.octets.specs.Run.{tree, deepest}
use Rattle.record.specs.Store.{stored}
use Rattle.record.specs.Table.{whole_records}
use Rattle.record.proofs.Back.{Whole, records_back}
use Rattle.rfc6733.specs.Decoder.{message_body, message_records, message_of}
use Rattle.rfc6733.specs.Records.{avps}
use Rattle.rfc6733.proofs.Accepted as of_accepted
use Rattle.rfc6733.proofs.JoinedMessages.{Tiled, when_accepted}
use Rattle.rfc6733.proofs.Editions.{accepted_by}
use Rattle.round_trip.proofs.Whole.{whole}
use Rattle.diameter.specs.declared.Message.{Message}
use Rattle.diameter.specs.Answers.{message_as}
use Rattle.promises.proofs.OneOutcome.Calls.{Slice, MutSlice}
use Rattle.promises.proofs.Ways.{Way, reading, edition, dictionary_of, Known, Decode, Call, Decodes, accepts, lawful, address_small}
use Rattle.promises.proofs.RoundTrip.{Left, left}

pub records_read : (way : Way) (limit : ℕ) (input store : List ℕ) (m : Message) (store' : List ℕ)
    → Decodes (dictionary_of way) limit input store (Ok m) store' → Bytes input
    → whole_records m.records store' ≡ message_records (dictionary_of way) input
unfolding stored
records_read way limit input store m store' says bytes =
    let D = dictionary_of way in
    let e = sym says.answer_is in
    let l = left D _ _ input m store' _ e says.store_is in
    ap₂ whole_records (sym l.records_counted) says.store_is
    ∙ records_back (message_records D input) _ (whole D (lawful way) (address_small way) _ _ input (message_as m) bytes e)

-- an acceptance is given only by an edition that is known
pub known_way : (way : Way) (κs : Lfts 2) (limit : ℕ) (input : Slice) (store : MutSlice) (m : Message) (store' : MutSlice)
    → Decode way κs limit input store (Ok m) store' → Known way
known_way (reading r) κs limit input store m store' p = tt
known_way (edition n) κs limit input store m store' p = accepted_by n limit _ input.now (message_as m) (sym p.0)

pub record Told {way : Way} {limit : ℕ} {m : Message} (c : Call way limit (Ok m)) : Type 0 where
  pub says : Decodes (dictionary_of way) limit c.input.now c.store.now (Ok m) c.store'.now
  pub known : Known way
  pub tiled : Tiled (dictionary_of way) limit c.input.now
  pub shallow : deepest (tree (avps (dictionary_of way)) (message_body c.input.now)) ≤ limit
  pub message_is : message_of (dictionary_of way) c.input.now ≡ message_as m
  pub left_is : Left (dictionary_of way) c.input.now m c.store'.now
  pub whole_is : Whole (message_records (dictionary_of way) c.input.now)

pub told : (way : Way) (limit : ℕ) (m : Message) (c : Call way limit (Ok m)) → Told c
unfolding stored
told way limit m c =
    let D = dictionary_of way in
    let s = c.input.now in
    let says = accepts way c.lifetimes limit c.input c.store m c.store' c.answered in
    let e = sym says.answer_is in
    let a = of_accepted.when_accepted D limit _ s (message_as m) e in
    record {
      says = says;
      known = known_way way c.lifetimes limit c.input c.store m c.store' c.answered;
      tiled = when_accepted D limit _ s (message_as m) e;
      shallow = a.shallow;
      message_is = a.message_is;
      left_is = left D _ _ s m c.store'.now _ e says.store_is;
      whole_is = whole D (lawful way) (address_small way) _ _ s (message_as m) c.bytes e;
    }

-- the records that it left
pub records_left_lem : (way : Way) (limit : ℕ) (m : Message) (c : Call way limit (Ok m))
    → whole_records m.records c.store'.now ≡ message_records (dictionary_of way) c.input.now
records_left_lem way limit m c =
    records_read way limit c.input.now c.store.now m c.store'.now (told way limit m c).says c.bytes
