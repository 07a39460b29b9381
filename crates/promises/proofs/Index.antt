-- Request E1, of the functions themselves: an index by `reader::find` and a full decode by `diameter::parse` or `parse_by` can't disagree.
-- What a decoder accepted, `find` answers from the table that was left: the first record of depth 1 with the code, or none where there is none. Of what
-- it refused as NotTiled, `find` gives the first such AVP before the failing place. What `find` refuses, a decoder refuses in the same
-- words. Between the contracts stand the laws of rfc6733/proofs/Sought.
use Prim.Native.Nat.{ℕ, ◌-◌, ◌*◌, ◌≤◌, ◌<◌}
use mathlib.Core.Path.{◌≡◌, refl, sym, ap, ◌∙◌}
use mathlib.Core.Bool.{true}
use Rattle.std.specs.Prelude.{Ok, Err}
use Rattle.promises.proofs.Outcomes.{Decoded, Found}
use Rattle.std.specs.Prelude.{Option, None, Some}
use mathlib.Core.Logic.{inl, inr}
use mathlib.Core.List.{List, [], ◌∷◌, ◌++◌, map, append_assoc}
use native.Mathlib.Omega.{arith}
use lib.ListN.{length, take, drop, replicate, length-append, length-drop}
use lib.Seq.{drop_at, take-append-le, drop-append-le}
use lib.Dec.{eqb}
use borrow.Author.Tests.{le-leb}
use contract.Lifetimes.{Lfts}
use Rattle.octets.specs.Octets.{Bytes}
use Rattle.octets.specs.Run.{tree}
use Rattle.refusal.proofs.AnswerOf.{answer_of_injective}
use Rattle.refusal.specs.Answer.{answer_of, Refusal, accepted}
use Rattle.refusal.specs.declared.Refusal.TheVariants.{NotTiled}
use Rattle.refusal.proofs.Tests.{decide}
use Rattle.record.specs.Record.{Record, record_size, record_bytes, laid}
use Rattle.record.specs.Outline.{Outline, outline_of, outline_bytes}
use Rattle.record.specs.Table.{bare, table_of, of_depth}
use Rattle.record.specs.Store.{stored}
use Rattle.rfc6733.specs.Header.{header_size}
use Rattle.rfc6733.specs.Records.{unentered}
use Rattle.rfc6733.specs.Decoder.{allowed, message_body, message_records}
use Rattle.rfc6733.specs.Search.{outlines, first_with}
use Rattle.rfc6733.proofs.FirstRecord.{FirstRecord, first_record}
use Rattle.rfc6733.proofs.Sought.{sought_accepted, before_failing, sought_failing, sought_refused}
use Rattle.record.proofs.Layouts.{record_length, laid_length, laid_append}
use Rattle.record.proofs.Outlines.{outline_bytes_lem}
use Rattle.record.proofs.Tables.{laid_read}
use Rattle.round_trip.proofs.RoundTrip.{records_fit}
use Rattle.diameter.specs.declared.Message.{Message}
use Rattle.diameter.specs.Answers.{message_as}
use Rattle.diameter.proofs.AnswerOf as decoder
use Rattle.promises.proofs.OneOutcome.Calls.{Slice, MutSlice, Find}
use Rattle.promises.proofs.Ways.{Way, dictionary_of, Known, Decode, decodes, accepts, refuses, lawful}
use Rattle.promises.proofs.RoundTrip.{left}

-- what stands first in a table
abbrev pub first_in : ℕ → List Record → Found
first_in code table = Ok (first_with code (map outline_of (of_depth 1 table)))

-- ---- the writer's view of a record has the same outline

bare_outlines : (d : ℕ) (rs : List Record) → map outline_of (of_depth d (map bare rs)) ≡ map outline_of (of_depth d rs)
unfolding bare
bare_outlines d [] = refl
bare_outlines d (r ∷ rs) =
    elim (decide (eqb r.depth d)) [ inl e ↦ rw (e, bare_outlines d rs) | inr e ↦ rw (e, bare_outlines d rs) ]

-- a decoder accepted m, whose records stand at the front of store'; `find` answered r of the same bytes. `Bytes` is asked as in RoundTrip
pub found_in_the_table : (way : Way) (κs : Lfts 2) (limit : ℕ) (input : Slice) (store : MutSlice) (m : Message) (store' : MutSlice)
    (λs : Lfts 1) (code : ℕ) (r : Found)
    → Decode way κs limit input store (Ok m) store' → Find λs input code r → Bytes input.now
    → r ≡ first_in code (table_of (take (m.records * record_size) store'.now))
unfolding stored
found_in_the_table way κs limit input store m store' λs code r p q bytes =
    let D = dictionary_of way in
    let s = input.now in
    let says = accepts way κs limit input store m store' p in
    let e = sym says.answer_is in
    let l = left D _ _ s m store'.now _ e says.store_is in
    let fits = records_fit D (lawful way) _ _ s (message_as m) bytes e in
    let found = first_with code (map outline_of (of_depth 1 (message_records D s))) in
    answer_of_injective r (Ok found) (q ∙ sought_accepted code s D _ _ (message_as m) e)
    ∙ ap (λ (x : Option Outline). Ok x) (rw (l.records_are, laid_read (message_records D s) fits, bare_outlines 1 (message_records D s)))

-- ---- the same in bytes

-- the outline is bytes 0..15 and 19..22 of the record at an index of the store, one of n; it is the first of depth 1 with the code
pub record InTheStore (code : ℕ) (table : List Record) (n : ℕ) (store : List ℕ) (o : Outline) : Type 0 where
  pub index : ℕ
  pub among : index < n
  pub same_bytes : outline_bytes o ≡ take 16 (drop (index * record_size) store) ++ take 4 (drop 19 (drop (index * record_size) store))
  pub first : FirstRecord code table o
  pub index_is : index ≡ length first.before

-- the bytes of a record that has some before it and anything behind
record_there : (before behind : List Record) (it : Record) (rest : List ℕ)
    → let here = drop (length before * record_size) (laid (before ++ (it ∷ behind)) ++ rest) in
    outline_bytes (outline_of it) ≡ take 16 here ++ take 4 (drop 19 here)
record_there before behind it rest =
    let more = laid behind ++ rest in
    let n = record_length it in
    let there : drop (length before * record_size) (laid (before ++ (it ∷ behind)) ++ rest) ≡ record_bytes it ++ more =
    rw (laid_append before (it ∷ behind), append_assoc (laid before) (laid (it ∷ behind)) rest, append_assoc (record_bytes it) (laid behind) rest)
    (drop_at (laid before) (record_bytes it ++ more) (length before * record_size) (omega (arith, laid_length before)))
    in
    outline_bytes_lem it
    ∙ rw (
      there,
      take-append-le 16 (record_bytes it) more (omega arith),
      drop-append-le 19 (record_bytes it) more (omega arith),
      take-append-le 4 (drop 19 (record_bytes it)) more (omega (arith, length-drop 19 (record_bytes it))),
    )

found_outline : (o : Outline) (x : Option Outline) → accepted (Some o) ≡ accepted x → x ≡ Some o
found_outline o x e = cc

-- what was found stands in the store
pub found_bytes_in_the_store : (way : Way) (κs : Lfts 2) (limit : ℕ) (input : Slice) (store : MutSlice) (m : Message) (store' : MutSlice)
    (λs : Lfts 1) (code : ℕ) (o : Outline)
    → Decode way κs limit input store (Ok m) store' → Find λs input code (Ok (Some o))
    → InTheStore code (message_records (dictionary_of way) input.now) m.records store'.now o
unfolding stored
found_bytes_in_the_store way κs limit input store m store' λs code o p q =
    let D = dictionary_of way in
    let s = input.now in
    let says = accepts way κs limit input store m store' p in
    let e = sym says.answer_is in
    let f = first_record code o (message_records D s) (found_outline o _ (q ∙ sought_accepted code s D _ _ (message_as m) e)) in
    let n = ap length f.table_is ∙ length-append f.before (f.it ∷ f.behind) in
    let store_is : store'.now ≡ laid (f.before ++ (f.it ∷ f.behind)) ++ cleared (f.before ++ (f.it ∷ f.behind)) =
    says.store_is ∙ ap (λ (rs : List Record). laid rs ++ cleared rs) f.table_is
    in
    record {
      index = length f.before;
      among = omega (arith, (left D _ _ s m store'.now _ e says.store_is).records_counted);
      same_bytes =
          ap outline_bytes f.outline_is
          ∙ record_there f.before f.behind f.it (cleared (f.before ++ (f.it ∷ f.behind)))
          ∙ sym (ap (λ (x : List ℕ). let here = drop (length f.before * record_size) x in take 16 here ++ take 4 (drop 19 here)) store_is);
      first = f;
      index_is = refl;
    }
  where
    -- zero to the last byte
    cleared : List Record → List ℕ
    cleared rs = replicate (length store.now - length (laid rs)) 0

-- ---- where the payload does not tile

-- what stands before the failing place
abbrev pub shown_failing : Option Outline → Found
shown_failing (Some o) = Ok (Some o)
shown_failing None = Err NotTiled

failing_shown : (x : Option Outline) → before_failing x ≡ answer_of (shown_failing x)
failing_shown None = refl
failing_shown (Some o) = refl

-- a decoder refused the bytes since they do not tile; `find` answered r
pub found_before_the_failing_place : (way : Way) (κs : Lfts 2) (limit : ℕ) (input : Slice) (store store' : MutSlice) (λs : Lfts 1) (code : ℕ) (r : Found)
    → Decode way κs limit input store (Err NotTiled) store' → Find λs input code r
    → r ≡ shown_failing (first_with code (outlines header_size (tree unentered (message_body input.now))))
found_before_the_failing_place way κs limit input store store' λs code r p q =
    let s = input.now in
    let says = refuses way κs limit input store NotTiled store' (λ n. refl) p in
    let found = first_with code (outlines header_size (tree unentered (message_body s))) in
    answer_of_injective r (shown_failing found) (q ∙ sought_failing code s (dictionary_of way) limit _ (sym says.answer_is) ∙ failing_shown found)

-- `find` refused the bytes, and a decoder was asked with a limit that is allowed
pub refused_by_both : (way : Way) (κs : Lfts 2) (limit : ℕ) (input : Slice) (store : MutSlice) (r : Decoded) (store' : MutSlice)
    (λs : Lfts 1) (code : ℕ) (why : Refusal)
    → Known way → Decode way κs limit input store r store' → Find λs input code (Err why) → 1 ≤ limit → limit ≤ 64
    → r ≡ Err why
unfolding allowed
refused_by_both way κs limit input store r store' λs code why known p q low high =
    let says = decodes way κs limit input store r store' known p in
    decoder.answer_of_injective r (Err why)
    (says.answer_is ∙ sought_refused code input.now why (sym q) (dictionary_of way) limit _ (within low high))
  where
    within : 1 ≤ limit → limit ≤ 64 → allowed limit ≡ true
    within a b = rw (le-leb 1 limit a, le-leb limit 64 b)
