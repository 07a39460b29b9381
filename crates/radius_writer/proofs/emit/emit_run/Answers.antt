-- `emit_run` meets its contract: the attributes of the records passed stand at the front of the output, and the next is put
-- right behind them. It fits, since the lengths of all do.
use Prim.Native.Nat.{◌+◌, ◌-◌, ◌≤◌}
use mathlib.Core.Path.{◌≡◌, ap, ◌∙◌}
use mathlib.Core.List.{◌∷◌}
use native.Mathlib.Omega.{arith}
use lib.ListN.{length, take, drop, length-drop}
use Rattle.std.specs.Slice.Iter.{chunks_exact_rest}
use Rattle.octets.proofs.Lists.{rest}
use Rattle.record.specs.Table.{table_of}
use Rattle.record.proofs.Chunks.{turn, ended}
use Rattle.radius_size.specs.Sizing.{lengths}
use Rattle.rfc2865.proofs.Rules.{keeps_good}
use Rattle.radius_writer.proofs.Runs.{none_put, one_put, all_put}
use Rattle.radius_writer.proofs.emit.emit_run.Goals as goal
use Rattle.radius_writer.proofs.emit.emit_run.Goals.{After-get-r}

-- the record that was read is the next
is_next : (c : After-get-r)
    → table_of (chunks_exact_rest c.loop-row.row-iterator) ≡ c.get-r.result ∷ table_of (chunks_exact_rest c.next.new.self)
is_next c =
    let step = c.in-Some.ensures.steps in
    rw (c.get-r.ensures) (turn c.loop-row.row-iterator c.next.new.self c.in-Some.row c.loop-row.invariant.cut step)

-- so its attribute fits what is left
fits : (c : After-get-r) → c.loop-row.size + c.get-r.result.length ≤ length c.loop-row.out
fits c =
    let sum = ap lengths (is_next c) in
    omega (arith, c.loop-row.invariant.going.lengths_are, c.requires.fits)

-- the output from there on, as it is lent
left_is : (c : After-get-r)
    → let l = c.loop-row in
    take (length l.out - l.size) (drop l.size l.out) ≡ drop l.size l.out
left_is c = let l = c.loop-row in rest l.out l.size (omega (arith, fits c))

pub loop-row-init : goal.loop-row-init
loop-row-init c =
    let chunks = c.chunks_exact-row-items.ensures in
    rw (c.into_iter-row-iterator.ensures.into_iter_gives, chunks.rest)
    record { cut = chunks.size; going = none_put c.requires.kept }

pub emit_attribute-requires : goal.emit_attribute-requires
emit_attribute-requires c =
    let r = (goal.at.emit_attribute-requires c).After-get-r in
    let kept = rw (is_next r) at c.loop-row.invariant.going.kept in
    let good = keeps_good (length c.args.pool.now) c.get-r.result kept.0 in
    let left = length-drop c.loop-row.size c.loop-row.out in
    rw (left_is r)
    record {
      code_fits = good.code_fits;
      least = good.least;
      most = good.most;
      within = good.within;
      fits = omega (arith, fits r);
    }

pub loop-row-preserved : goal.loop-row-preserved
loop-row-preserved c =
    let r = (goal.at.loop-row-preserved c).After-get-r in
    record {
      cut = c.in-Some.ensures.steps.0 ∙ c.loop-row.invariant.cut;
      going = one_put (is_next r) c.loop-row.invariant.going (rw (left_is r) at c.emit_attribute.ensures);
    }

pub returns : goal.returns
returns c =
    let none = ended c.loop-row.row-iterator c.next.new.self c.loop-row.invariant.cut c.in-None.ensures.steps in
    all_put none c.loop-row.invariant.going
