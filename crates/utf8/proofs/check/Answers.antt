-- `check` meets its contract: only characters were passed up to `at`, so the text is valid that far. The loop stops where no character is at
-- the front, which is where the longest prefix ends, or where nothing is left.
use native.Mathlib.Omega.{arith}
use Rattle.utf8.proofs.Characters.{ended, by_run, by_character, no_character}
use Rattle.utf8.proofs.check.Goals as goal

pub loop-at-preserved-then-is_utf8_1 : goal.loop-at-preserved-then-is_utf8_1
loop-at-preserved-then-is_utf8_1 c = by_run c.loop-at.invariant c.run-at.ensures

pub overflow_add-at : goal.overflow_add-at
overflow_add-at c = let more = by_run c.loop-at.invariant c.run-at.ensures in omega (arith, more.within)

pub loop-at-preserved : goal.loop-at-preserved
loop-at-preserved c = by_character c.loop-at.invariant c.char_size-size.ensures (omega arith)

pub overflow_add-at-in-loop-at : goal.overflow_add-at-in-loop-at
overflow_add-at-in-loop-at c =
    let more = by_character c.loop-at.invariant c.char_size-size.ensures (omega arith) in omega (arith, more.within)

pub returns-then-size-eq0 : goal.returns-then-size-eq0
returns-then-size-eq0 c = no_character c.loop-at.invariant c.loop-at-test.true c.char_size-size.ensures c.if-size-eq0.true

pub returns : goal.returns
returns c = ended c.loop-at.invariant c.loop-at-test.false
