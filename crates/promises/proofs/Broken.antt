-- Request E5, of the functions themselves: the check says that a text is well-formed, or how long its longest prefix is that is; and in what a decoder
-- accepted, the value of each record of kind 0 says where its text broke, and is 0 of all else. The contracts say so of the reading from the
-- front, which finds that prefix (rfc3629/proofs/Prefixes), and each record in the store is read back as it was laid out (round_trip/proofs/Whole).
use Prim.Native.Nat.{ℕ, ◌-◌, ◌<◌}
use mathlib.Core.Path.{◌≡◌, refl, sym, ap, ◌∙◌}
use mathlib.Core.Bool.{Bool, true, false≢true}
use mathlib.Core.Logic.{◌↔◌}
use mathlib.Core.List.{List}
use native.Mathlib.Omega.{arith}
use lib.ListN.{length, take}
use contract.Lifetimes.{Lfts}
use Rattle.std.specs.Prelude.{⊤, Result, Ok, Err}
use Rattle.octets.specs.Octets.{Bytes}
use Rattle.octets.specs.Run.{item}
use Rattle.rfc3629.specs.Syntax.{Utf8Octets}
use Rattle.rfc3629.specs.Prefix.{LongestPrefix}
use Rattle.utf8.specs.declared.Utf8Error.{Utf8Error}
use Rattle.rfc3629.proofs.Grammar.{well_formed_is}
use Rattle.rfc3629.proofs.Prefixes.{longest, one_longest, broke_before_end}
use Rattle.utf8.proofs.Answers.{says}
use Rattle.record.specs.Table.{whole_records, Every}
use Rattle.record.specs.Store.{stored}
use Rattle.rfc6733.specs.Header.{header_size, message_length}
use Rattle.rfc6733.specs.Avp.{avp_size}
use Rattle.record.specs.Counts as definition
use Rattle.rfc6733.specs.Decoder.{run_counts, message_body, message_records, alone_records, alone_of}
use Rattle.rfc6733.specs.Broken.{TellsBreak}
use Rattle.rfc6733.proofs.Accepted.{when_alone}
use Rattle.octets.proofs.Held.{holds_here}
use Rattle.round_trip.proofs.Whole.{whole, alone_whole}
use Rattle.record.proofs.Back.{every_back}
use Rattle.round_trip.proofs.Breaks.{every_tells}
use Rattle.avps.specs.declared.Counts.{Counts}
use Rattle.avps.specs.Answers as avps
use Rattle.diameter.specs.declared.Message.{Message}
use Rattle.diameter.specs.Answers.{message_as}
use Rattle.promises.proofs.OneOutcome.Calls.{Slice, MutSlice, Check, IsUtf8, TandrekilyUtf8}
use Rattle.promises.proofs.Ways.{Way, dictionary_of, Decode, accepts, DecodeAlone, accepts_alone, lawful, address_small, address_silent}
use Rattle.promises.proofs.RoundTrip.{left}

-- ---- the check

-- what an answer says of a text
abbrev pub Right : List ℕ → Result ⊤ Utf8Error → Type 0
Right s (Ok all) = Utf8Octets s
Right s (Err why) = (why.valid_up_to < length s) × LongestPrefix s why.valid_up_to

pub check_is_right : (κs : Lfts 1) (s : Slice) (r : Result ⊤ Utf8Error) → Check κs s r → Right s.now r
check_is_right κs s (Ok all) p = (well_formed_is s.now).0 (says s.now (Ok all) p)
check_is_right κs s (Err why) p =
    let b = says s.now (Err why) p in
    rw (← b.up_to) (broke_before_end s.now b.ill_formed, longest s.now)

-- `is_utf8` is its first case
pub first_case : (κs λs : Lfts 1) (s : Slice) (r : Result ⊤ Utf8Error) (b : Bool) → Check κs s r → IsUtf8 λs s b
    → (b ≡ true) ↔ (r ≡ Ok (record {}))
first_case κs λs s (Ok all) b p q = (λ e. refl, λ e. q ∙ says s.now (Ok all) p)
first_case κs λs s (Err why) b p q = (
  λ e. absurd (false≢true (sym (says s.now (Err why) p).ill_formed ∙ sym q ∙ e)),
  λ e. let none : ◌≡◌ {A = ℕ} 0 1 = cc in absurd (omega arith),
)

-- the library's call gives that length, and no other number is it
pub utf8_exactly : (κs : Lfts 1) (text : Slice) (r n : ℕ) → TandrekilyUtf8 κs text r → (r ≡ n) ↔ LongestPrefix text.now n
utf8_exactly κs text r n p =
    (λ e. rw (sym e ∙ p) (longest text.now), λ l. p ∙ one_longest text.now _ n (longest text.now) l)

-- ---- the records

-- a decoder accepted m and left its records in store'. `Bytes` is asked as in RoundTrip
pub each_tells_break : (way : Way) (κs : Lfts 2) (limit : ℕ) (input : Slice) (store : MutSlice) (m : Message) (store' : MutSlice)
    → Decode way κs limit input store (Ok m) store' → Bytes input.now
    → Every (TellsBreak (dictionary_of way) input.now) (whole_records m.records store'.now)
unfolding stored message_records message_body
each_tells_break way κs limit input store m store' p bytes =
    let D = dictionary_of way in
    let s = input.now in
    let says = accepts way κs limit input store m store' p in
    let e = sym says.answer_is in
    let l = left D _ _ s m store'.now _ e says.store_is in
    every_back (TellsBreak D s) (message_records D s) _ _ _ l.records_counted says.store_is
    (whole D (lawful way) (address_small way) _ _ s (message_as m) bytes e)
    (every_tells D (address_silent way) s bytes (message_body s) header_size (holds_here s header_size (message_length s - header_size)))

-- the same of one AVP alone
pub each_tells_alone : (way : Way) (κs : Lfts 2) (limit : ℕ) (input : Slice) (store : MutSlice) (c : Counts) (store' : MutSlice)
    → DecodeAlone way κs limit input store (Ok c) store' → Bytes input.now
    → Every (TellsBreak (dictionary_of way) input.now) (whole_records c.records store'.now)
unfolding avps.counts_as stored alone_of run_counts alone_records item
each_tells_alone way κs limit input store c store' p bytes =
    let D = dictionary_of way in
    let s = input.now in
    let says = accepts_alone way κs limit input store c store' p in
    let e = sym says.answer_is in
    let counted : length (alone_records D s) ≡ c.records = ap (λ (x : definition.Counts). x.records) (when_alone D limit _ s _ e).counts_are in
    every_back (TellsBreak D s) (alone_records D s) _ _ _ counted says.store_is
    (alone_whole D (lawful way) (address_small way) _ _ s _ bytes e)
    (every_tells D (address_silent way) s bytes (take (avp_size s) s) 0 (holds_here s 0 (avp_size s)))
