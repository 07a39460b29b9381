-- The round trip of a run that tiles, by induction over it: its records are a sound forest whose numbers fit, and the bytes that
-- are written from that forest are the run's own.
use Prim.Native.Nat.{ℕ, ◌+◌, ◌^◌, ◌≤◌, ◌<◌}
use mathlib.Core.Path.{◌≡◌, refl}
use mathlib.Core.Bool.{Bool, true, false}
use mathlib.Core.Logic.{inl, inr}
use mathlib.Core.List.{List, ◌++◌, map, map-append}
use native.Mathlib.Omega.{arith}
use lib.ListN.{length}
use Rattle.octets.specs.Octets.{Bytes}
use Rattle.octets.specs.Run.{item, after, Tree, done, broken, plain, group, node, tree, tiles, deepest}
use Rattle.octets.proofs.Runs.{false_true, Parts, tree_none, tree_step, by_run}
use Rattle.rfc6733.specs.Avp.{flags, head_size, payload, complete, Exact}
use Rattle.record.specs.Value.{Value}
use Rattle.rfc6733.specs.Dictionary.{Dictionary}
use Rattle.rfc6733.specs.Records.{value_of, group_value, avps, errors, records}
use Rattle.rfc6733.specs.Decoder.{run_records}
use Rattle.rfc6733.proofs.Groups.{told_fit}
use Rattle.rfc6733.proofs.RunRecords.{count_tried}
use Rattle.rfc6733.proofs.Tried.{tried_length}
use Rattle.record.specs.Forest as table
use Rattle.record.specs.Forest.{none, flat}
use Rattle.record.specs.Table.{bare, AllFit}
use Rattle.record.specs.Parents.{told_parents, parented}
use Rattle.record.proofs.Parents.{with_fit}
use Rattle.rfc6733.proofs.Alone.{item_exact}
use Rattle.rfc6733.proofs.Complete.{exact_sizes}
use Rattle.rfc6733.proofs.Items.{sound, payload_length, bytes_payload}
use Rattle.refusal.proofs.Tests.{decide}
use Rattle.round_trip.specs.Trip.{Ungrouped, Lawful, forest_of}
use Rattle.octets.proofs.Held.{bytes_item, bytes_after, Holds, holds_front, holds_behind}
use Rattle.round_trip.proofs.LeafKinds.{value_leaf}
use Rattle.record.proofs.Tables.{fit_bare}
use Rattle.round_trip.proofs.Shape.{Sound}
use Rattle.round_trip.proofs.Again.{own}
use Rattle.round_trip.proofs.AvpTrip.{Trip, payload_held, trip_leaf, trip_group}

-- ---- the records of a run, as a table holds them, are its forest laid out

pub flat_records : (D : Dictionary) (place depth : ℕ) (t : Tree) → map bare (records D place depth t) ≡ flat (forest_of D place depth t)
flat_records D place depth done = refl
flat_records D place depth broken = refl
flat_records D place depth (plain a rest) = rw (flat_records D (place + length a) depth rest)
flat_records D place depth (group a inner rest) =
    let members = records D (place + head_size (flags a)) (depth + 1) inner in
    let m = flat_records D (place + head_size (flags a)) (depth + 1) inner in
    let r = flat_records D (place + length a) depth rest in
    elim (decide (tiles inner)) [
      | inl e ↦ rw (e, map-append bare members (records D (place + length a) depth rest), m, r)
      | inr e ↦ rw (e, r)
    ]

-- so they fit a table where the forest does
records_fit_as : {pool : List ℕ} (D : Dictionary) (place depth : ℕ) (s : List ℕ) (t : Tree) → Trip pool depth s (forest_of D place depth t)
    → AllFit (records D place depth t)
records_fit_as D place depth s t trip = fit_bare (records D place depth t) (rw (flat_records D place depth t) trip.fits)

-- with their parents too, since a record is a header that was tried, and each of those takes a byte at least
pub run_fits : {pool : List ℕ} (D : Dictionary) (place : ℕ) (s : List ℕ) → Trip pool 1 s (forest_of D place 1 (tree (avps D) s))
    → length s < 256 ^ 4 → AllFit (run_records D place s)
unfolding run_records parented
run_fits D place s trip short =
    let t = tree (avps D) s in
    let few = told_fit D place t (omega (arith, count_tried t, tried_length D s)) in
    with_fit (told_parents (records D place 1 t)) (records D place 1 t) few (records_fit_as D place 1 s t trip)

-- ---- the round trip

module _ (pool : List ℕ) (D : Dictionary) (lawful : Lawful D) where
  -- the run s, whose tree is t, wherever it stands
  abbrev Trips : List ℕ → Tree → Type 0
  Trips s t =
      (place depth : ℕ) → 1 ≤ depth → depth + deepest t ≤ 65 → Bytes s → place + length s < 256 ^ 4 → Holds pool place s → tiles t ≡ true
      → Trip pool depth s (forest_of D place depth t)

  module _ (s : List ℕ) (whole : complete s ≡ true) (p : Parts (avps D) s) where
    abbrev a : List ℕ
    a = item (avps D) s

    abbrev x : List ℕ
    x = after (avps D) s

    abbrev inner : Tree
    inner = tree (avps D) (payload a)

    abbrev rest : Tree
    rest = tree (avps D) x

    exact : Exact a
    exact = item_exact D s whole

    module _ (inside : Trips (payload a) inner) (behind : Trips x rest) (place depth : ℕ) (low : 1 ≤ depth) (bytes : Bytes s)
        (within : place + length s < 256 ^ 4) (holds : Holds pool place s) where
      both : Holds pool place (a ++ x)
      both = rw p.whole holds

      held : Holds pool place a
      held = holds_front pool place a x both

      members : depth + 1 + deepest inner ≤ 65 → tiles inner ≡ true
          → Trip pool (depth + 1) (payload a) (forest_of D (place + head_size (flags a)) (depth + 1) inner)
      members d t =
          let z = exact_sizes a exact in
          let l = payload_length a z.0 in
          inside (place + head_size (flags a)) (depth + 1) (omega arith) d (bytes_payload a (bytes_item (avps D) s bytes)) (omega (arith, exact.size_is))
          (payload_held pool place a exact held) t

      module _ (deep : depth + deepest rest ≤ 65) (high : depth ≤ 64) (tiled : tiles rest ≡ true) where
        follows : Trip pool depth x (forest_of D (place + length a) depth rest)
        follows = behind (place + length a) depth low deep (bytes_after (avps D) s bytes) (omega arith) (holds_behind pool place a x both) tiled

        as_leaf : (v : Value) → Ungrouped v
            → Trip pool depth (a ++ x) (table.node (own place depth a v) none (forest_of D (place + length a) depth rest))
        as_leaf v u = trip_leaf pool place depth a exact (bytes_item (avps D) s bytes) held (omega arith) low high v _ x u follows

      trips_node : (b : Bool) → (avps D).nested a ≡ b → depth + deepest (node true b a inner rest) ≤ 65 → tiles (node true b a inner rest) ≡ true
          → Trip pool depth (a ++ x) (forest_of D place depth (node true b a inner rest))
      unfolding group_value
      trips_node false e d t = as_leaf (omega arith) (omega arith) t (value_of D a) (value_leaf D lawful a e)
      trips_node true e d t =
          elim (decide (tiles inner)) [
            | inl f ↦
                rw f
                (trip_group pool place depth a exact (bytes_item (avps D) s bytes) held (omega arith) low (omega arith) (errors D inner) _ _ x
                (members (omega arith) f) (follows (omega arith) (omega arith) t))
            | inr f ↦ rw f (as_leaf (omega arith) (omega arith) t _ (record { low = omega arith; other = refl }))
          ]

  pub trips : (s : List ℕ) → Trips s (tree (avps D) s)
  trips =
      by_run (avps D) (sound (avps D).nested) (λ (s : List ℕ). Trips s (tree (avps D) s))
      (λ place depth low deep bytes within holds tiled. rw tree_none (record { sound_is = Sound.no_more; fits = tt; is = refl }))
      (λ s pos h place depth low.
      rw (tree_step (avps D) (sound (avps D).nested) s pos)
      (λ deep bytes within holds tiled.
      elim (decide (complete s)) [
        | inl e ↦
            let k = h e in
            let t = trips_node s e k.0 k.1 k.2 place depth low bytes within holds ((avps D).nested (item (avps D) s)) refl in
            rw e (rw k.0.whole at (t (rw e at deep) (rw e at tiled)))
        | inr e ↦ absurd (false_true (rw e at tiled))
      ]))
