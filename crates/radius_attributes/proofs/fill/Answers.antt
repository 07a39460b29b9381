-- `fill` meets its contract: the records of the run are those of its attributes, one after the other (`Filling`). As many are left as
-- are still to be put, so one stands at the front of what is left.
use Prim.Native.Nat.{◌+◌, ◌*◌, ◌≤◌}
use mathlib.Core.Path.{◌≡◌, sym}
use native.Mathlib.Omega.{arith}
use lib.ListN.{length, get_or}
use Rattle.record.specs.Record.{record_size}
use Rattle.radius_attributes.proofs.Fronts.{Turn, first, turn}
use Rattle.radius_attributes.proofs.Filling.{nothing_filled, all_filled, own_bytes, one_filled}
use Rattle.radius_attributes.proofs.fill.Goals as goal
use Rattle.radius_attributes.proofs.fill.Goals.{In-loop-index}

-- the attribute at the front
turned : (c : In-loop-index) → Turn c.loop-index.rest.now (get_or c.loop-index.rest.now 1 0)
turned c =
    let s = c.loop-index.rest.now in
    turn s (first s (omega (arith, c.loop-index.invariant.filling.count_is)))

pub loop-index-init : goal.loop-index-init
loop-index-init c = record { place_is = omega arith; filling = nothing_filled }

pub bounds-rest-1 : goal.bounds-rest-1
bounds-rest-1 c = let t = turned (goal.at.bounds-rest-1 c).In-loop-index in omega (arith, t.fits, t.some)

pub split_at-requires : goal.split_at-requires
split_at-requires c = (turned (goal.at.split_at-requires c).In-loop-index).fits

pub read_attribute-raised-requires-clause-own : goal.read_attribute-raised-requires-clause-own
read_attribute-raised-requires-clause-own c =
    let t = turned (goal.at.read_attribute-raised-requires-clause-own c).In-loop-index in
    rw (c.split_at.ensures.front)
    (own_bytes t (omega (arith, c.requires.room.places_fit, c.loop-index.invariant.place_is)))

-- there is room for its record
within : (c : In-loop-index) → (c.loop-index.index + 1) * record_size ≤ length c.loop-index.store
within c = omega (arith, c.requires.room.records_fit, c.requires.count)

pub loop-index-preserved : goal.loop-index-preserved
loop-index-preserved c =
    let l = (goal.at.loop-index-preserved c).In-loop-index in
    let s = c.split_at.ensures in
    let put = rw (s.front) at c.read_attribute-raised.ensures in
    record {
      place_is = omega (arith, s.front_len, s.back_len);
      filling =
          rw (s.front_len, s.back, c.join-errors.ensures)
          (one_filled c.loop-index.invariant.filling (within l) (turned l) put);
    }

pub returns : goal.returns
returns c =
    let end : c.loop-index.index ≡ c.args.records = omega arith in
    let zeros = c.fill.ensures.after (λ y e. e) in
    all_filled (rw end at c.loop-index.invariant.filling) c.requires.room (sym c.requires.count) zeros
