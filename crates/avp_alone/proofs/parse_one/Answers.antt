-- `parse_one` meets its contract: the bytes that it lends are the AVP's own, a run of one that tiles, so the answer is the run's.
use Prim.Native.Nat.{◌≤◌}
use mathlib.Core.Path.{◌∙◌}
use native.Mathlib.Omega.{arith}
use lib.ListN.{length, length-take}
use Rattle.octets.proofs.Numbers.{be_small}
use Rattle.rfc6733.proofs.Complete.{sizes, complete_whole}
use Rattle.record.specs.Record.{last_place}
use Rattle.avp_alone.proofs.Ones.{own_records, alone_is}
use Rattle.avp_alone.proofs.parse_one.Goals as goal
use Rattle.avp_alone.proofs.parse_one.Goals.{Start}

-- all of the AVP is there
there : (b : Start) → b.args.size ≤ length b.args.input.now
there b = let w = complete_whole b.args.input.now b.requires.complete.whole in omega (arith, w.room, b.requires.complete.size_is)

pub slice_bounds-parse_avps-end : goal.slice_bounds-parse_avps-end
slice_bounds-parse_avps-end c =
    let l = length-take c.args.size c.args.input.now in
    omega (arith, there (goal.at.slice_bounds-parse_avps-end c).Start)

-- its length has three bytes, and its padding is at most three more
pub returns : goal.returns
returns c =
    let p = c.parse_avps.ensures in
    let s = c.args.input.now in
    let n = be_small 3 s 5 (λ i. omega (arith, c.type_inv.input i)) in
    let short : c.args.size ≤ last_place = omega (arith, sizes s, c.requires.complete.size_is) in
    record {
      answer = p.answer ∙ alone_is _ _ _ c.requires.complete _ _ c.requires.limit_value short;
      store = rw (own_records _ _ _ c.requires.complete) at p.store;
    }
