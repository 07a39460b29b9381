-- The words that a turn passes are of the run.
use Rattle.ascii.proofs.Runs.{passed}
use Rattle.ascii.proofs.run.Goals as goal

pub loop-at-preserved : goal.loop-at-preserved
loop-at-preserved c = passed 32 c.loop-at.invariant c.loop-at-test.true c.words.ensures

pub loop-at-2-preserved : goal.loop-at-2-preserved
loop-at-2-preserved c = passed 4 c.loop-at-2.invariant c.loop-at-2-test.true c.words-in-loop-at-2.ensures
