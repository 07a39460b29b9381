-- The records of a packet that was accepted are read back whole from their bytes, and tell where their text broke: error flags are below 4,
-- and a value is a number of four bytes, or less than the length of its data.
use Prim.Native.Nat.{ℕ, ◌-◌, ◌^◌, ◌≤◌, ◌<◌}
use mathlib.Core.Path.{◌≡◌, refl}
use mathlib.Core.Bool.{Bool, true, false, cond, ◌||◌}
use mathlib.Core.Logic.{inl, inr}
use mathlib.Core.List.{List}
use native.Mathlib.Omega.{arith}
use lib.ListN.{length, drop}
use lib.Dec.{eqb}
use borrow.Author.Tests.{eqb-true}
use Rattle.octets.specs.Octets.{be, Bytes}
use Rattle.octets.proofs.Numbers.{be_small}
use Rattle.octets.proofs.Held.{bytes_take, bytes_drop}
use Rattle.refusal.specs.Answer.{accepted}
use Rattle.refusal.proofs.Tests.{decide}
use Rattle.rfc3629.specs.Prefix.{LongestPrefix}
use Rattle.rfc3629.specs.Utf8.{well_formed, valid_up_to}
use Rattle.rfc3629.proofs.Prefixes.{broke_before_end}
use Rattle.flags.specs.Flags.{data_length}
use Rattle.record.specs.Kinds.{unhandled, utf8_string, address, unsigned32}
use Rattle.record.specs.Value.{Value, value, text}
use Rattle.record.specs.Table.{Every}
use Rattle.record.proofs.Back.{Valued, Whole}
use Rattle.record.proofs.Breaks.{text_breaks, Silent, no_number, a_number}
use Rattle.record.proofs.Chosen.{either}
use Rattle.rfc2865.specs.Attribute.{head_size, code, attribute_length, payload}
use Rattle.rfc2865.specs.Types.{kind_of}
use Rattle.rfc2865.specs.Records.{four_bytes, data_as, value_of, record_of}
use Rattle.rfc2865.specs.Packet.{packet_records, Packet, decoded}
use Rattle.rfc2865.specs.Broken.{TellsBreak}
use Rattle.rfc2865.proofs.Items.{payload_length}
use Rattle.rfc2865.proofs.AttributeTrip.{Stands, data_is}
use Rattle.rfc2865.proofs.RoundTrip.{every_record, records_fit}

-- ---- the numbers of a value

record Small (v : Value) : Type 0 where
  below : v.errors < 16
  fits : v.number < 256 ^ 8

small : (k e n : ℕ) → e < 16 → n < 256 ^ 8 → Small (value k e n)
small k e n below fits = record { below = below; fits = fits }

text_small : (k : ℕ) (s : List ℕ) → length s ≤ 4096 → Small (text k s)
unfolding text
text_small k s few =
    elim (decide (well_formed s)) [
      | inl e ↦ rw e (small k 0 0 (omega arith) (omega arith))
      | inr e ↦ rw e (small unhandled 1 (valid_up_to s) (omega arith) (omega (arith, broke_before_end s e)))
    ]

four_small : (k : ℕ) (s : List ℕ) → Bytes s → Small (four_bytes k s)
unfolding four_bytes
four_small k s b =
    either Small (eqb (length s) 4) (small k 0 (be 4 s 0) (omega arith) (omega (arith, be_small 4 s 0 b))) (small unhandled 2 0 (omega arith) (omega arith))

data_small : (k : ℕ) (s : List ℕ) → Bytes s → length s ≤ 4096 → Small (data_as k s)
unfolding data_as
data_small k s b few =
    either Small (eqb k utf8_string) (text_small k s few)
    (either Small (eqb k address || eqb k unsigned32) (four_small k s b) (small k 0 0 (omega arith) (omega arith)))

-- ---- the records

-- the data of an attribute are bytes, and few
record Own (a : List ℕ) : Type 0 where
  bytes : Bytes (payload a)
  few : length (payload a) ≤ 4096

own : (pool : List ℕ) (place : ℕ) (a : List ℕ) → Stands pool place a → Own a
unfolding payload
own pool place a st =
    record {
      bytes = bytes_take (attribute_length a - head_size) (drop head_size a) (bytes_drop head_size a st.bytes);
      few = omega (arith, payload_length a st.whole, st.whole.there, st.near);
    }

valued : (pool : List ℕ) (place : ℕ) (a : List ℕ) → Stands pool place a → Valued (record_of place a)
unfolding record_of value_of
valued pool place a st =
    let o = own pool place a st in
    let z = data_small (kind_of (code a)) (payload a) o.bytes o.few in
    record { errors_fit = z.below; value_fits = z.fits }

pub whole : (room : ℕ) (s : List ℕ) (p : Packet) → Bytes s → decoded room s ≡ accepted p → Whole (packet_records s)
whole room s p b e = record { fits = records_fit room s p b e; valued = every_record room s p b e Valued (valued s) }

-- ---- where text broke

four_silent : (k : ℕ) (s : List ℕ) → eqb k unhandled ≡ false → Silent (four_bytes k s)
unfolding four_bytes
four_silent k s handled = either Silent (eqb (length s) 4) (a_number k 0 (be 4 s 0) handled) (no_number unhandled data_length)

-- a kind of four bytes is not 0
numbered : (k : ℕ) → eqb k address || eqb k unsigned32 ≡ true → eqb k unhandled ≡ false
numbered k t =
    elim (decide (eqb k address)) [
      | inl e ↦ rw (eqb-true k address e)
      | inr e ↦ let four = rw e at t in rw (eqb-true k unsigned32 four)
    ]

other_silent : (k : ℕ) (s : List ℕ) → eqb k utf8_string ≡ false → Silent (data_as k s)
unfolding data_as
other_silent k s other = rw other (chosen (eqb k address || eqb k unsigned32) refl)
  where
    chosen : (b : Bool) → (eqb k address || eqb k unsigned32) ≡ b → Silent (cond b (four_bytes k s) (value k 0 0))
    chosen true t = four_silent k s (numbered k t)
    chosen false t = no_number k 0

as_text : (k : ℕ) (s : List ℕ) → eqb k utf8_string ≡ true → (data_as k s).kind ≡ unhandled
    → ((data_as k s).number < length s) × LongestPrefix s (data_as k s).number
unfolding data_as
as_text k s t is = let own = rw t at is in rw t (text_breaks k s (rw (eqb-true k utf8_string t)) own)

tells : (pool : List ℕ) (place : ℕ) (a : List ℕ) → Stands pool place a → TellsBreak pool (record_of place a)
unfolding record_of value_of
tells pool place a st =
    let k = kind_of (code a) in
    record {
      of_text = λ t is. rw (data_is pool place a st) (as_text k (payload a) t is);
      of_others = λ t. (other_silent k (payload a) t).zero;
    }

pub every_tells : (room : ℕ) (s : List ℕ) (p : Packet) → Bytes s → decoded room s ≡ accepted p → Every (TellsBreak s) (packet_records s)
every_tells room s p b e = every_record room s p b e (TellsBreak s) (tells s)
