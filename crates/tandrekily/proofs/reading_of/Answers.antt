-- `reading_of` meets its contract: the two values are the two readings.
use Rattle.tandrekily.specs.Asked.{reading_of}
use Rattle.tandrekily.proofs.reading_of.Goals as goal

pub returns-then-rfc : goal.returns-then-rfc
unfolding reading_of
returns-then-rfc c = rw c.if-rfc.true

pub returns-else-rfc : goal.returns-else-rfc
unfolding reading_of
returns-else-rfc c = rw c.if-rfc.false
