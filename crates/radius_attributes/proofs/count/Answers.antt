-- `count` meets its contract: an attribute is complete at the front of what is left exactly where its two bytes are there, its length
-- counts them, and as many bytes are there: these are the tests.
use mathlib.Core.Path.{sym, ◌∙◌}
use native.Mathlib.Omega.{arith}
use lib.ListN.{length, get_or, length-drop}
use borrow.Author.Tests.{eqb-true, eqb-false}
use Rattle.octets.proofs.Lists.{rest}
use Rattle.refusal.proofs.Tests.{tests}
use Rattle.radius_attributes.proofs.Fronts.{stated, stated_wrong, too_few, turn}
use Rattle.radius_attributes.proofs.Counting.{one_counted, all_counted, not_counted}
use Rattle.radius_attributes.proofs.count.Goals as goal

pub returns-then-length-rest : goal.returns-then-length-rest
returns-then-length-rest c =
    let s = c.loop-rest.rest.now in
    not_counted s c.loop-rest.invariant.counting (omega arith) (stated_wrong s c.if-length-rest.true)

pub loop-rest-preserved : goal.loop-rest-preserved
loop-rest-preserved c =
    let s = c.loop-rest.rest.now in
    let both = simp tests at c.if-length-rest.false in
    let is = stated s in
    let t = turn s (record { least = omega arith; there = omega arith }) in
    rw (rest s (get_or s 1 0) t.fits)
    record {
      taken = omega (arith, length-drop (get_or s 1 0) s, t.some);
      counting = one_counted s c.loop-rest.invariant.counting t;
    }

pub returns-then-is_empty : goal.returns-then-is_empty
returns-then-is_empty c =
    let s = c.loop-rest.rest.now in
    all_counted s c.loop-rest.invariant.counting (eqb-true (length s) 0 (sym c.is_empty.ensures ∙ c.if-is_empty.true))

pub returns-else-is_empty : goal.returns-else-is_empty
returns-else-is_empty c =
    let s = c.loop-rest.rest.now in
    let some = eqb-false (length s) 0 (sym c.is_empty.ensures ∙ c.if-is_empty.false) in
    not_counted s c.loop-rest.invariant.counting (omega arith) (too_few s c.in_default.len_below)
