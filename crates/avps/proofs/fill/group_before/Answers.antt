-- `group_before` meets its contract: each branch is the definition's, and what comes before an index that fits four bytes fits them too.
use borrow.Author.Tests.{eq-eqb, ne_eqb}
use Rattle.avps.proofs.fill.group_before.Goals as goal

pub returns-then-first-eq0 : goal.returns-then-first-eq0
returns-then-first-eq0 c = rw (eq-eqb _ _ c.if-first-eq0.true)

pub returns : goal.returns
returns c = rw (ne_eqb _ _ c.if-first-eq0.false)
