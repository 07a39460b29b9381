-- `error_flags` meets its contract: the flag is raised exactly where a reserved bit is set, which is what `reserved_set` answers.
use Rattle.header.proofs.Header.error_flags.Goals as goal

pub returns-then-reserved_set : goal.returns-then-reserved_set
returns-then-reserved_set c = rw (← c.reserved_set.ensures, c.if-reserved_set.true)

pub returns : goal.returns
returns c = rw (← c.reserved_set.ensures, c.if-reserved_set.false)
