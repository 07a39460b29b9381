-- The records of a message that was accepted are read back whole from their bytes: the numbers that the writer takes fit by the round
-- trip, the error flags are below 16, and the value was read of bytes, or counts some of them, so that it fits eight.
use Prim.Native.Nat.{ℕ, ◌-◌}
use mathlib.Core.Path.{◌≡◌}
use mathlib.Core.Logic.{inl, inr}
use mathlib.Core.List.{List}
use native.Mathlib.Omega.{arith}
use Rattle.octets.specs.Octets.{Bytes}
use Rattle.octets.specs.Run.{item, Tree, tiles}
use Rattle.octets.proofs.Numbers.{be_small}
use Rattle.refusal.specs.Answer.{accepted}
use Rattle.rfc6733.specs.Header.{header_size, message_length}
use Rattle.rfc6733.specs.Avp.{avp_size, payload}
use Rattle.record.specs.Value.{Value}
use Rattle.rfc6733.specs.Dictionary.{Dictionary, sawp}
use Rattle.record.specs.Table.{Every}
use Rattle.record.proofs.Back.{Valued, Whole}
use Rattle.rfc6733.specs.Records.{avps, own_errors, value_of, group_value, record_of}
use Rattle.rfc6733.specs.Decoder.{Message, run_records, message_body, message_records, decoded, alone_records, avp_alone}
use Rattle.record.specs.Counts.{Counts}
use Rattle.flags.proofs.Joins.{join_small}
use Rattle.rfc6733.proofs.Accepted.{when_alone}
use Rattle.rfc6733.proofs.Alone.{item_exact, exact_tiles}
use Rattle.rfc6733.proofs.Complete.{exact_sizes}
use Rattle.rfc6733.proofs.Items.{payload_length, bytes_payload}
use Rattle.rfc6733.proofs.RunErrors.{Small, own_small, value_small, errors_small, bare_small}
use Rattle.refusal.proofs.Tests.{decide}
use Rattle.round_trip.specs.Trip.{Lawful}
use Rattle.octets.proofs.Held.{bytes_item, Holds, holds_here}
use Rattle.round_trip.proofs.LeafKinds.{sawp_lawful}
use Rattle.round_trip.proofs.RunTrip.{run_fits, trips}
use Rattle.round_trip.proofs.EveryRecord.{Stands, every_run}
use Rattle.round_trip.proofs.RoundTrip.{records_fit}

-- ---- the records of a message

module _ (D : Dictionary) (address_small : (s : List ℕ) → Small s (D.as_address s)) (pool : List ℕ) where
  one_valued : (place depth : ℕ) (a : List ℕ) (v : Value) → Stands pool place a → Small (payload a) v → Valued (record_of place depth a v)
  unfolding record_of
  one_valued place depth a v st small =
      let w = exact_sizes a st.exact in
      let few = be_small 3 a 5 st.bytes in
      record {
        errors_fit = join_small (own_errors a) v.errors (own_small a) small.below;
        value_fits = small.fits (bytes_payload a st.bytes) (omega (arith, payload_length a w.0, w.1));
      }

  group_small : (s : List ℕ) (inner : Tree) → Small s (group_value D inner)
  unfolding group_value
  group_small s inner =
      elim (decide (tiles inner)) [
        | inl e ↦ rw e (record { below = errors_small D address_small inner; fits = λ bytes few. omega arith })
        | inr e ↦ rw e (record { below = omega arith; fits = λ bytes few. omega arith })
      ]

  run_valued : Bytes pool → (s : List ℕ) (place : ℕ) → Holds pool place s → Every Valued (run_records D place s)
  run_valued bytes =
      every_run D pool Valued bytes
      (λ place depth a st e. one_valued place depth a (value_of D a) st (value_small D address_small a))
      (λ place depth a inner st e. one_valued place depth a (group_value D inner) st (group_small (payload a) inner))
      (λ p r v. record { errors_fit = v.errors_fit; value_fits = v.value_fits })

pub whole : (D : Dictionary) → Lawful D → ((s : List ℕ) → Small s (D.as_address s)) → (limit room : ℕ) (s : List ℕ) (m : Message) → Bytes s
    → decoded D limit room s ≡ accepted m → Whole (message_records D s)
unfolding message_records message_body
whole D lawful address_small limit room s m b e =
    record {
      fits = records_fit D lawful limit room s m b e;
      valued = run_valued D address_small s b (message_body s) header_size (holds_here s header_size (message_length s - header_size));
    }

pub sawp_whole : (limit room : ℕ) (s : List ℕ) (m : Message) → Bytes s → decoded sawp limit room s ≡ accepted m → Whole (message_records sawp s)
unfolding sawp
sawp_whole = whole sawp sawp_lawful bare_small

-- ---- of one AVP alone

pub alone_whole : (D : Dictionary) → Lawful D → ((s : List ℕ) → Small s (D.as_address s)) → (limit room : ℕ) (s : List ℕ) (c : Counts) → Bytes s
    → avp_alone D limit room s ≡ accepted c → Whole (alone_records D s)
unfolding alone_records item
alone_whole D lawful address_small limit room s c b e =
    let acc = when_alone D limit room s c e in
    let a = item (avps D) s in
    let exact = item_exact D s acc.whole in
    let sizes = exact_sizes a exact in
    let own = bytes_item (avps D) s b in
    let few = be_small 3 a 5 own in
    let held = holds_here s 0 (avp_size s) in
    let trip = trips s D lawful a 0 1 (omega arith) (omega (arith, acc.shallow, acc.limit_high)) own (omega (arith, exact.size_is, sizes.1)) held (exact_tiles D a exact) in
    record {
      fits = run_fits D 0 a trip (omega (arith, exact.size_is, sizes.1));
      valued = run_valued D address_small s b a 0 held;
    }
