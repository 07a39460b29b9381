-- Joining two messages, of the functions themselves: decoding before joining and after it give the same.
-- `diameter::parse` or `parse_by` decodes two messages and one that holds the AVPs of both; `rules::shifting::shift`
-- moves the second's table to where it stands behind the first's. Between the contracts stand the laws of the
-- definition (rfc6733/proofs/JoinedMessages, rules/proofs/Laid). That three runs may be grouped either way is
-- rfc6733/proofs/Fragments.
use Prim.Native.Nat.{ℕ, ◌+◌, ◌-◌, ◌*◌, ◌≤◌}
use mathlib.Core.Path.{◌≡◌, refl, sym, ap, ap₂, subst, ◌∙◌}
use mathlib.Core.List.{List, ◌++◌, map}
use native.Mathlib.Omega.{arith}
use lib.ListN.{length, take}
use contract.Lifetimes.{Lfts}
use Rattle.std.specs.Prelude.{Ok, Err}
use Rattle.promises.proofs.Outcomes.{Decoded, Shifted}
use Rattle.refusal.specs.Answer.{accepted}
use Rattle.refusal.proofs.Answers.{not_accepted}
use Rattle.flags.specs.Flags.{join}
use Rattle.record.specs.Record.{Record, record_size, laid}
use Rattle.record.specs.Store.{room, stored}
use Rattle.record.specs.Table.{whole_records}
use Rattle.record.specs.Counts.{Counts}
use Rattle.record.proofs.Layouts.{laid_append}
use Rattle.record.proofs.Tables.{fit_after}
use Rattle.rfc6733.specs.Joining.{shifted, HoldsBoth, avp_errors}
use Rattle.rfc6733.specs.Header.{header_size, header_errors}
use Rattle.rfc6733.specs.Decoder as definition
use Rattle.rfc6733.specs.Decoder.{message_records, message_of, run_counts}
use Rattle.rfc6733.specs.Dictionary.{Dictionary}
use Rattle.rfc6733.proofs.JoinedMessages.{MergedMessage, messages_merged, is_accepted}
use Rattle.refusal.specs.Answer as of_refusal
use Rattle.rules.specs.Shifting.{table_after}
use Rattle.refusal.proofs.AnswerOf.{answer_of_injective}
use Rattle.rules.proofs.Laid.{answer_laid, rows_laid}
use Rattle.round_trip.proofs.Whole.{whole}
use Rattle.diameter.specs.declared.Message.{Message}
use Rattle.diameter.specs.Answers.{answer_of, message_as}
use Rattle.promises.proofs.OneOutcome.Calls.{MutSlice, Shift}
use Rattle.promises.proofs.Ways.{Way, dictionary_of, Call, Decodes, decodes, lawful, address_small}
use Rattle.promises.proofs.RoundTrip.{left}
use Rattle.promises.proofs.Tables.{records_read, told, records_left_lem}

-- the whole records that a call left
abbrev pub records_left : {way : Way} {limit : ℕ} {m : Message} → Call way limit (Ok m) → List Record
records_left {way} {limit} {m} c = whole_records m.records c.store'.now

-- the error flags of its message's AVPs, and of the header
abbrev pub avp_flags : {way : Way} {limit : ℕ} {r : Decoded} → Call way limit r → ℕ
avp_flags {way} c = avp_errors (dictionary_of way) c.input.now

abbrev pub header_flags : {way : Way} {limit : ℕ} {r : Decoded} → Call way limit r → ℕ
header_flags c = header_errors c.input.now

-- the third message holds the AVPs of the first and then of the second
abbrev pub AsksBoth : {way : Way} {limit : ℕ} {r₁ r₂ r : Decoded} → Call way limit r₁ → Call way limit r₂
    → Call way limit r → Type 0
AsksBoth first second both = HoldsBoth first.input.now second.input.now both.input.now

-- both are accepted as one message
pub record JoinedIn {way : Way} {limit : ℕ} {m n : Message} {r : Decoded}
    (first : Call way limit (Ok m)) (second : Call way limit (Ok n)) (both : Call way limit r)
    : Type 0 where
  pub message : Message
  pub is_accepted : r ≡ Ok message
  pub records_are : whole_records message.records both.store'.now
      ≡ records_left first ++ map (shifted (m.length - header_size) m.records) (records_left second)
  pub records_counted : message.records ≡ m.records + n.records
  pub tried_is : message.tried ≡ m.tried + n.tried
  pub length_is : message.length - header_size ≡ (m.length - header_size) + (n.length - header_size)
  -- the flags of the AVPs join; each message has those of its own header besides
  pub errors_are : message.errors ≡ join (header_flags both) (join (avp_flags first) (avp_flags second))
  pub first_errors : m.errors ≡ join (header_flags first) (avp_flags first)
  pub second_errors : n.errors ≡ join (header_flags second) (avp_flags second)

-- the second's table, moved, stands behind the first's as in the store of both, byte for byte
pub record MovedBehind {way : Way} {limit : ℕ} {m n : Message} {r : Decoded}
    (first : Call way limit (Ok m)) (second : Call way limit (Ok n)) (both : Call way limit r)
    (moved : Shifted) (table' : List ℕ) : Type 0 where
  pub all_moved : moved ≡ Ok n.records
  pub store_is : take ((m.records + n.records) * record_size) both.store'.now
      ≡ take (m.records * record_size) first.store'.now ++ table'

-- ---- the proofs

-- an answer that accepts holds a message
record Holding (r : Decoded) (x : definition.Message) : Type 0 where
  message : Message
  is_accepted : r ≡ Ok message
  same : message_as message ≡ x

holding : (r : Decoded) (x : definition.Message) → answer_of r ≡ accepted x → Holding r x
holding (Ok m) x e = record { message = m; is_accepted = refl; same = cc }
holding (Err why) x e = absurd (not_accepted e)

module _ {way : Way} {limit : ℕ} {m n : Message} {r : Decoded}
    (first : Call way limit (Ok m)) (second : Call way limit (Ok n)) (both : Call way limit r)
    (asks : AsksBoth first second both) (fits : m.records + n.records ≤ room both.store.now) where
  abbrev D : Dictionary
  D = dictionary_of way

  joined : MergedMessage D first.input.now second.input.now both.input.now
  joined = messages_merged D limit _ _ _ (told way limit m first).tiled (told way limit n second).tiled asks

  says : Decodes D limit both.input.now both.store.now r both.store'.now
  says = decodes way both.lifetimes limit both.input both.store r both.store'
      (told way limit m first).known both.answered

  held : Holding r (message_of D both.input.now)
  held =
      let a = told way limit m first in
      let b = told way limit n second in
      holding r _
      (says.answer_is
      ∙ is_accepted D limit _ _ _ a.tiled b.tiled asks _ a.shallow b.shallow
      (omega (arith, a.left_is.records_counted, b.left_is.records_counted)))

  accepted_says : Decodes D limit both.input.now both.store.now (Ok held.message)
      both.store'.now
  accepted_says =
      subst (λ (x : Decoded). Decodes D limit both.input.now both.store.now x both.store'.now)
      held.is_accepted says

  -- by the counts of the first
  records_joined : message_records D both.input.now
      ≡ message_records D first.input.now
      ++ map (shifted (m.length - header_size) m.records) (message_records D second.input.now)
  records_joined = let l = (told way limit m first).left_is in
      rw (← l.length_is, ← l.records_counted) joined.records_are

  records_total : held.message.records ≡ m.records + n.records
  unfolding message_as message_of run_counts message_records
  records_total =
      ap (λ (x : definition.Message). x.counts.records) held.same
      ∙ joined.records_counted
      ∙ ap₂ ◌+◌ (told way limit m first).left_is.records_counted (told way limit n second).left_is.records_counted

  joined_in : JoinedIn first second both
  unfolding message_as message_of avp_errors run_counts message_records
  joined_in =
      let counts : definition.Message → Counts = λ x. x.counts in
      let of_both = ap counts held.same in
      let of_first = ap counts (sym (told way limit m first).message_is) in
      let of_second = ap counts (sym (told way limit n second).message_is) in
      let tried : Counts → ℕ = λ c. c.tried in
      let bytes : Counts → ℕ = λ c. c.length in
      let errors : Counts → ℕ = λ c. c.errors in
      let all = records_read way limit both.input.now both.store.now held.message
      both.store'.now accepted_says both.bytes in
      record {
        message = held.message;
        is_accepted = held.is_accepted;
        records_are = rw (records_left_lem way limit m first, records_left_lem way limit n second) (all ∙ records_joined);
        records_counted = records_total;
        tried_is = ap tried of_both ∙ joined.tried_is ∙ sym (ap₂ ◌+◌ (ap tried of_first) (ap tried of_second));
        length_is = rw (ap bytes of_both, ap bytes of_first, ap bytes of_second) joined.length_is;
        errors_are = ap errors of_both ∙ joined.errors_are;
        first_errors = ap errors of_first;
        second_errors = ap errors of_second;
      }

  module _ (κs : Lfts 1) (table : MutSlice) (moved : Shifted) (table' : MutSlice)
      (call : Shift κs table (m.length - header_size) m.records moved table')
      (is : table.now ≡ take (n.records * record_size) second.store'.now) where
    abbrev rs : List Record
    rs = message_records D first.input.now

    abbrev ts : List Record
    ts = message_records D second.input.now

    abbrev further : List Record
    further = map (shifted (m.length - header_size) m.records) ts

    laid_out : table.now ≡ laid ts
    laid_out = is ∙ (told way limit n second).left_is.records_are

    -- the joined message's records fit their bytes, and these are the last of them
    all_moved : of_refusal.answer_of moved ≡ accepted (length ts)
    all_moved =
        let w = whole D (lawful way) (address_small way) _ _ both.input.now (message_as held.message)
        both.bytes (sym accepted_says.answer_is) in
        let fit = fit_after rs further (rw records_joined at w.fits) in
        call.0 ∙ rw laid_out (answer_laid _ _ ts (told way limit n second).whole_is.fits fit)

    rows_are : table'.now ≡ laid further
    unfolding table_after
    rows_are = call.1 ∙ rw (all_moved, laid_out) (rows_laid _ _ ts (told way limit n second).whole_is)

    moved_behind : MovedBehind first second both moved table'.now
    unfolding stored
    moved_behind =
        let b = (told way limit n second).left_is in
        let l = left D _ _ both.input.now held.message both.store'.now _ (sym accepted_says.answer_is)
        accepted_says.store_is in
        record {
          all_moved = answer_of_injective moved (Ok n.records)
              (all_moved ∙ ap accepted b.records_counted);
          store_is =
              rw (← records_total) l.records_are
              ∙ ap laid records_joined
              ∙ laid_append rs further
              ∙ sym (ap₂ ◌++◌ (told way limit m first).left_is.records_are rows_are);
        }

-- ---- what is promised

pub joined_messages : (way : Way) (limit : ℕ) (m n : Message) (r : Decoded)
    (first : Call way limit (Ok m)) (second : Call way limit (Ok n)) (both : Call way limit r)
    → AsksBoth first second both → m.records + n.records ≤ room both.store.now
    → JoinedIn first second both
joined_messages way limit m n r first second both asks fits = joined_in first second both asks fits

-- `shift` is given the second's records, and moves them by the first's length without its header and by its record
-- count
pub shifted_behind : (way : Way) (limit : ℕ) (m n : Message) (r : Decoded)
    (first : Call way limit (Ok m)) (second : Call way limit (Ok n)) (both : Call way limit r)
    → AsksBoth first second both → m.records + n.records ≤ room both.store.now
    → (κs : Lfts 1) (table : MutSlice) (moved : Shifted) (table' : MutSlice)
    → Shift κs table (m.length - header_size) m.records moved table'
    → table.now ≡ take (n.records * record_size) second.store'.now
    → MovedBehind first second both moved table'.now
shifted_behind way limit m n r first second both asks fits κs table moved table' call is =
    moved_behind first second both asks fits κs table moved table' call is
