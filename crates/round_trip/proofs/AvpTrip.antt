-- The round trip of one AVP before what follows it: its record keeps the rules and fits, and its bytes are made again from the
-- record and from its data, which are the members' bytes of a group that tiles and stand at the record's place otherwise.
use Prim.Native.Nat.{ℕ, ◌+◌, ◌%◌, ◌^◌, ◌≤◌, ◌<◌}
use mathlib.Core.Path.{◌≡◌, refl, sym, ap, ◌∙◌}
use mathlib.Core.Bool.{true, false}
use mathlib.Core.Logic.{inl, inr}
use mathlib.Core.List.{List, ◌++◌}
use native.Mathlib.Omega.{arith}
use lib.ListN.{length}
use lib.Dec.{eqb}
use Rattle.octets.specs.Octets.{Bytes}
use Rattle.octets.proofs.Runs.{false_true}
use Rattle.rfc6733.specs.Avp.{flags, head_size, data_size, payload, Exact}
use Rattle.record.specs.Value.{Value, value}
use Rattle.record.specs.Kinds.{grouped, time}
use Rattle.record.specs.Forest as table
use Rattle.record.specs.Forest.{Forest, none, flat}
use Rattle.rfc6733.specs.Writer.{head_of, stated_data, forest_bytes, body_of}
use Rattle.rfc6733.specs.Records.{record_of}
use Rattle.record.specs.Table.{bare, Fits, AllFit}
use Rattle.rfc6733.proofs.Complete.{exact_sizes}
use Rattle.refusal.proofs.Tests.{decide}
use Rattle.rfc6733.proofs.Items.{payload_length}
use Rattle.round_trip.specs.Trip.{Ungrouped}
use Rattle.round_trip.proofs.Rules.{good_keeps}
use Rattle.round_trip.proofs.Lengths.{long}
use Rattle.record.proofs.Tables.{every_both}
use Rattle.round_trip.proofs.Again.{own, avp_again, own_good, own_fits}
use Rattle.round_trip.proofs.Shape.{Sound, sound_kept}
use Rattle.octets.proofs.Held.{Holds, holds_part, holds_fits, holds_data}

-- the forest f, whose trees stand at a depth, keeps the rules, fits a table, and writes s
pub record Trip (pool : List ℕ) (depth : ℕ) (s : List ℕ) (f : Forest) : Type 0 where
  pub sound_is : Sound (length pool) depth f
  pub fits : AllFit (flat f)
  pub is : forest_bytes pool f ≡ s

pub payload_held : (pool : List ℕ) (place : ℕ) (a : List ℕ) → Exact a → Holds pool place a → Holds pool (place + head_size (flags a)) (payload a)
unfolding payload
payload_held pool place a exact holds =
    let z = exact_sizes a exact in
    holds_part pool place a (head_size (flags a)) (data_size a) (omega arith) holds

module _ (pool : List ℕ) (place depth : ℕ) (a : List ℕ) (exact : Exact a) (bytes : Bytes a) (holds : Holds pool place a)
    (within : place + length a < 256 ^ 4) (low : 1 ≤ depth) (high : depth ≤ 64) where
  data_length : length (payload a) ≡ data_size a
  data_length = payload_length a (exact_sizes a exact).0

  -- its members are whole words
  member_words : (members : Forest) → Trip pool (depth + 1) (payload a) members → data_size a % 4 ≡ 0
  member_words members m =
      let l = long pool members (sound_kept (length pool) (depth + 1) members m.sound_is) in
      omega (arith, data_length, ap length m.is)

  -- its record points at its data, and has members only as a group
  module _ (v : Value) (members rest : Forest) (x : List ℕ) (kind : v.kind ≤ time)
      (inside : eqb v.kind grouped ≡ true → Trip pool (depth + 1) (payload a) members)
      (outside : eqb v.kind grouped ≡ false → members ≡ none) where
    body_again : body_of pool (own place depth a v) (forest_bytes pool members) ≡ payload a
    unfolding bare record_of stated_data head_of data_size
    body_again =
        elim (decide (eqb v.kind grouped)) [
          | inl e ↦ rw e (inside e).is
          | inr e ↦ rw e (holds_data pool _ _ (payload a) data_length (payload_held pool place a exact holds))
        ]

    members_good : Sound (length pool) (depth + 1) members × AllFit (flat members)
    members_good =
        elim (decide (eqb v.kind grouped)) [
          | inl e ↦ ((inside e).sound_is, (inside e).fits)
          | inr e ↦ rw (outside e) (Sound.no_more, tt)
        ]

    trip_one : Trip pool depth x rest → Trip pool depth (a ++ x) (table.node (own place depth a v) members rest)
    unfolding bare record_of
    trip_one r =
        let all = holds_fits pool place a (omega (arith, exact_sizes a exact)) holds in
        let g = own_good place depth a v exact bytes (length pool) low high kind all (λ e. member_words members (inside e)) in
        record {
          sound_is = Sound.more (good_keeps depth (length pool) (own place depth a v) g) refl outside members_good.0 r.sound_is;
          fits = (own_fits place depth a v exact bytes within high kind, every_both Fits (flat members) (flat rest) members_good.1 r.fits);
          is = rw (avp_again place depth a v exact bytes _ body_again, r.is);
        }

  pub trip_leaf : (v : Value) (rest : Forest) (x : List ℕ) → Ungrouped v → Trip pool depth x rest
      → Trip pool depth (a ++ x) (table.node (own place depth a v) none rest)
  trip_leaf v rest x u = trip_one v none rest x u.low (λ e. absurd (false_true (sym u.other ∙ e))) (λ e. refl)

  pub trip_group : (e : ℕ) (members rest : Forest) (x : List ℕ) → Trip pool (depth + 1) (payload a) members → Trip pool depth x rest
      → Trip pool depth (a ++ x) (table.node (own place depth a (value grouped e 0)) members rest)
  trip_group e members rest x m = trip_one (value grouped e 0) members rest x (omega arith) (λ y. m) (λ y. absurd (false_true (sym y)))
