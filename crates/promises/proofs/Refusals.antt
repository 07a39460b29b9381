-- Demand 1 of the functions themselves: a refusal changes no lent byte. Each contract says that the store, the output or the table is what
-- the definition leaves of it (`stored`, `output`, `table_after`), and that is what was lent wherever the answer is a refusal.
use Prim.Native.Nat.{ℕ, ◌≤◌}
use mathlib.Core.Path.{◌≡◌, refl, ◌∙◌}
use mathlib.Core.Bool.{Bool}
use mathlib.Core.List.{List}
use native.Mathlib.Omega.{arith}
use lib.ListN.{get_or}
use contract.Lifetimes.{Lfts}
use lib.IntN.{ℤ}
use denote.Ref.{MutBor}
use Rattle.std.specs.Prelude.{Err}
use Rattle.refusal.specs.Answer.{Refusal, Answer, accepted, refused}
use Rattle.record.specs.Record.{Record}
use Rattle.rfc6733.specs.Decoder.{Message}
use Rattle.record.specs.Counts.{Counts}
use Rattle.record.specs.Store.{stored, output}
use Rattle.attribute.specs.declared.Reading.{Reading}
use Rattle.writer.specs.declared.Fields.{Fields}
use Rattle.rules.specs.Shifting.{table_after}
use Rattle.std.specs.declared.cmp.Ordering.{Ordering}
use Rattle.rfc2865.specs.Packet.{Packet}
use Rattle.radius_writer.specs.declared.Fields as packet
use Rattle.results.specs.Packets as packets
use Rattle.results.specs.Results.{message_result, avp_result, written_result, shifted_result}
use Rattle.tandrekily.specs.Packets.{authenticator_after}
use Rattle.tandrekily.specs.Asked.{number_shown, order_shown}
use Rattle.promises.proofs.OneOutcome.Calls.{Slice, MutSlice, Parse, ParseAvp, ParseBy, ParseAvpBy, Write, Shift, TandrekilyMessage, TandrekilyAvp, TandrekilyMessageBy, TandrekilyAvpBy, TandrekilyWrite, TandrekilyShift, TandrekilyCompare, ParsePacket, WritePacket, TandrekilyRadius, TandrekilyRadiusWrite}

-- ---- in Rattle: the answer is a refusal

pub parse_refusal_changes_nothing : (κs : Lfts 2) (reading : Reading) (limit : ℕ) (input : Slice) (store : MutSlice) (why : Refusal) (store' : MutSlice)
    → Parse κs reading limit input store (Err why) store' → store'.now ≡ store.now
unfolding stored
parse_refusal_changes_nothing κs reading limit input store why store' p = p.1

pub parse_avp_refusal_changes_nothing : (κs : Lfts 2) (reading : Reading) (limit : ℕ) (input : Slice) (store : MutSlice) (why : Refusal) (store' : MutSlice)
    → ParseAvp κs reading limit input store (Err why) store' → store'.now ≡ store.now
unfolding stored
parse_avp_refusal_changes_nothing κs reading limit input store why store' p = p.1

pub parse_by_refusal_changes_nothing : (κs : Lfts 2) (edition limit : ℕ) (input : Slice) (store : MutSlice) (why : Refusal) (store' : MutSlice)
    → ParseBy κs edition limit input store (Err why) store' → store'.now ≡ store.now
unfolding stored
parse_by_refusal_changes_nothing κs edition limit input store why store' p = p.1

pub parse_avp_by_refusal_changes_nothing : (κs : Lfts 2) (edition limit : ℕ) (input : Slice) (store : MutSlice) (why : Refusal) (store' : MutSlice)
    → ParseAvpBy κs edition limit input store (Err why) store' → store'.now ≡ store.now
unfolding stored
parse_avp_by_refusal_changes_nothing κs edition limit input store why store' p = p.1

pub write_refusal_changes_nothing : (κs : Lfts 3) (fields : Fields) (table pool : Slice) (out : MutSlice) (why : Refusal) (out' : MutSlice)
    → Write κs fields table pool out (Err why) out' → out'.now ≡ out.now
unfolding output
write_refusal_changes_nothing κs fields table pool out why out' p = p.1

pub parse_packet_refusal_changes_nothing : (κs : Lfts 2) (input : Slice) (store : MutSlice) (why : Refusal) (authenticator : List ℕ) (store' : MutSlice)
    → ParsePacket κs input store (record { decoded = Err why; authenticator = authenticator }) store' → store'.now ≡ store.now
unfolding stored
parse_packet_refusal_changes_nothing κs input store why authenticator store' p = p.1.1

pub write_packet_refusal_changes_nothing : (κs : Lfts 3) (fields : packet.Fields) (table pool : Slice) (out : MutSlice) (why : Refusal) (out' : MutSlice)
    → WritePacket κs fields table pool out (Err why) out' → out'.now ≡ out.now
unfolding output
write_packet_refusal_changes_nothing κs fields table pool out why out' p = p.1

pub shift_refusal_changes_nothing : (κs : Lfts 1) (table : MutSlice) (bytes records : ℕ) (why : Refusal) (table' : MutSlice)
    → Shift κs table bytes records (Err why) table' → table'.now ≡ table.now
unfolding table_after
shift_refusal_changes_nothing κs table bytes records why table' p = p.1

-- ---- in the library: the number, the first of the result, is not 0

abbrev pub number : List ℕ → ℕ
number result = get_or result 0 0

-- An acceptance is shown by the number 0 and a refusal leaves what was lent, so another number is shown only where it is left.
lent_unless_0 : {A : Type 0} (shown left : Answer A → List ℕ) (lent : List ℕ)
    → ((x : A) → number (shown (accepted x)) ≡ 0) → ((why : Refusal) → left (refused why) ≡ lent)
    → (x : Answer A) → 1 ≤ number (shown x) → left x ≡ lent
lent_unless_0 shown left lent zero same (accepted x) h = let z = zero x in absurd (omega arith)
lent_unless_0 shown left lent zero same (refused why) h = same why

message_store : (x : Answer Message) (rs : List Record) (store : List ℕ) → 1 ≤ number (message_result x) → stored x rs store ≡ store
unfolding stored
message_store x rs store = lent_unless_0 message_result (λ y. stored y rs store) store (λ m. refl) (λ why. refl) x

avp_store : (x : Answer Counts) (rs : List Record) (store : List ℕ) → 1 ≤ number (avp_result x) → stored x rs store ≡ store
unfolding stored
avp_store x rs store = lent_unless_0 avp_result (λ y. stored y rs store) store (λ c. refl) (λ why. refl) x

written_out : (x : Answer ℕ) (message out : List ℕ) → 1 ≤ number (written_result x) → output x message out ≡ out
unfolding output
written_out x message out = lent_unless_0 written_result (λ y. output y message out) out (λ total. refl) (λ why. refl) x

pub tandrekily_message_refusal_changes_nothing : (κs : Lfts 3) (rfc : Bool) (limit : ℕ) (input : Slice) (store result store' result' : MutSlice)
    → TandrekilyMessage κs rfc limit input store result store' result' → 1 ≤ number result'.now → store'.now ≡ store.now
tandrekily_message_refusal_changes_nothing κs rfc limit input store result store' result' p h = p.1 ∙ message_store _ _ _ (rw p.0 at h)

pub tandrekily_avp_refusal_changes_nothing : (κs : Lfts 3) (rfc : Bool) (limit : ℕ) (input : Slice) (store result store' result' : MutSlice)
    → TandrekilyAvp κs rfc limit input store result store' result' → 1 ≤ number result'.now → store'.now ≡ store.now
tandrekily_avp_refusal_changes_nothing κs rfc limit input store result store' result' p h = p.1 ∙ avp_store _ _ _ (rw p.0 at h)

pub tandrekily_message_by_refusal_changes_nothing : (κs : Lfts 3) (edition limit : ℕ) (input : Slice) (store result store' result' : MutSlice)
    → TandrekilyMessageBy κs edition limit input store result store' result' → 1 ≤ number result'.now → store'.now ≡ store.now
tandrekily_message_by_refusal_changes_nothing κs edition limit input store result store' result' p h = p.1 ∙ message_store _ _ _ (rw p.0 at h)

pub tandrekily_avp_by_refusal_changes_nothing : (κs : Lfts 3) (edition limit : ℕ) (input : Slice) (store result store' result' : MutSlice)
    → TandrekilyAvpBy κs edition limit input store result store' result' → 1 ≤ number result'.now → store'.now ≡ store.now
tandrekily_avp_by_refusal_changes_nothing κs edition limit input store result store' result' p h = p.1 ∙ avp_store _ _ _ (rw p.0 at h)

pub tandrekily_write_refusal_changes_nothing : (κs : Lfts 4) (flags code app_id hop_id end_id : ℕ) (table pool : Slice) (out result out' result' : MutSlice)
    → TandrekilyWrite κs flags code app_id hop_id end_id table pool out result out' result' → 1 ≤ number result'.now → out'.now ≡ out.now
tandrekily_write_refusal_changes_nothing κs flags code app_id hop_id end_id table pool out result out' result' p h =
    p.1 ∙ written_out _ _ _ (rw p.0 at h)

moved_table : (bytes records : ℕ) (x : Answer ℕ) (table : List ℕ) → 1 ≤ number (shifted_result x) → table_after bytes records x table ≡ table
unfolding table_after
moved_table bytes records x table =
    lent_unless_0 shifted_result (λ y. table_after bytes records y table) table (λ n. refl) (λ why. refl) x

pub tandrekily_shift_refusal_changes_nothing : (κs : Lfts 2) (table : MutSlice) (bytes records : ℕ) (result table' result' : MutSlice)
    → TandrekilyShift κs table bytes records result table' result' → 1 ≤ number result'.now → table'.now ≡ table.now
tandrekily_shift_refusal_changes_nothing κs table bytes records result table' result' p h = p.1 ∙ moved_table _ _ _ _ (rw p.0 at h)

-- a comparison's number is its result
order_lent : (x : Answer Ordering) (lent : ℤ) → 1 ≤ number_shown x → order_shown x lent ≡ lent
unfolding number_shown order_shown
order_lent (accepted o) lent h = absurd (omega arith)
order_lent (refused why) lent h = refl

pub tandrekily_compare_refusal_changes_nothing : (κs : Lfts 1) (digits exponent other_digits other_exponent : ℤ) (order : MutBor ℤ) (r : ℕ) (order' : MutBor ℤ)
    → TandrekilyCompare κs digits exponent other_digits other_exponent order r order' → 1 ≤ r → order'.now ≡ order.now
tandrekily_compare_refusal_changes_nothing κs digits exponent other_digits other_exponent order r order' p h =
    p.1 ∙ order_lent _ _ (rw p.0 at h)

-- ---- in the library, RADIUS: of the store and of the authenticator

packet_store : (x : Answer Packet) (rs : List Record) (store : List ℕ) → 1 ≤ number (packets.packet_result x) → stored x rs store ≡ store
unfolding stored
packet_store x rs store = lent_unless_0 packets.packet_result (λ y. stored y rs store) store (λ p. refl) (λ why. refl) x

authenticator_lent : (x : Answer Packet) (lent : List ℕ) → 1 ≤ number (packets.packet_result x) → authenticator_after x lent ≡ lent
unfolding authenticator_after
authenticator_lent x lent = lent_unless_0 packets.packet_result (λ y. authenticator_after y lent) lent (λ p. refl) (λ why. refl) x

packet_out : (x : Answer ℕ) (bytes out : List ℕ) → 1 ≤ number (packets.written_result x) → output x bytes out ≡ out
unfolding output
packet_out x bytes out = lent_unless_0 packets.written_result (λ y. output y bytes out) out (λ total. refl) (λ why. refl) x

pub tandrekily_radius_refusal_changes_nothing : (κs : Lfts 4) (input : Slice) (store authenticator result store' authenticator' result' : MutSlice)
    → TandrekilyRadius κs input store authenticator result store' authenticator' result' → 1 ≤ number result'.now
    → (store'.now ≡ store.now) × (authenticator'.now ≡ authenticator.now)
tandrekily_radius_refusal_changes_nothing κs input store authenticator result store' authenticator' result' p h =
    let refuses = rw p.0 at h in (p.1.1 ∙ packet_store _ _ _ refuses, p.1.0 ∙ authenticator_lent _ _ refuses)

pub tandrekily_radius_write_refusal_changes_nothing : (κs : Lfts 5) (code identifier : ℕ) (authenticator table pool : Slice) (out result out' result' : MutSlice)
    → TandrekilyRadiusWrite κs code identifier authenticator table pool out result out' result' → 1 ≤ number result'.now → out'.now ≡ out.now
tandrekily_radius_write_refusal_changes_nothing κs code identifier authenticator table pool out result out' result' p h =
    p.1 ∙ packet_out _ _ _ (rw p.0 at h)
