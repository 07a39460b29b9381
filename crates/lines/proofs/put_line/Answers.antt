-- `put_line` meets its contract: a number is the next piece of what is left, and the last number is all of it.
use Rattle.std.proofs.Common.{◌≡◌, ◌-◌, length, refl, arith, length-take}
use Rattle.lines.proofs.Lines.{line_first, line_last}
use Rattle.lines.proofs.Puts.{none_passed, passed, last_passed}
use Rattle.lines.proofs.put_line.Goals as goal

pub loop-n-init : goal.loop-n-init
loop-n-init c = none_passed _ _ c.requires.fits

pub loop-n-preserved : goal.loop-n-preserved
loop-n-preserved c =
    let next = rw (line_first c.args.numbers.now c.loop-n.n-index c.loop-n-test.true) at c.loop-n.invariant in
    passed _ _ next c.put_number-at.ensures

pub returns : goal.returns
returns c =
    let ns = c.args.numbers.now in
    let at_last : c.loop-n.n-index ≡ length ns - 1 = omega (arith, length-take (length ns - 1) ns) in
    let last = rw (at_last, line_last ns (length ns - 1) (omega arith) refl) at c.loop-n.invariant in
    last_passed last c.put_number.ensures
