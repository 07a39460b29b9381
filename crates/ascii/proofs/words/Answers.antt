-- Of the words that are there the first N are asked; where there are fewer, there are not bytes enough.
use Rattle.std.proofs.Common.{◌*◌, ◌∙◌, arith}
use borrow.Author.Tests.{lt-leb}
use Rattle.ascii.proofs.Runs.{words_are, too_short}
use Rattle.ascii.proofs.words.Goals as goal

pub returns-then-words : goal.returns-then-words
returns-then-words g c = c.each.ensures ∙ words_are g.row.N c.args.s.now _ c.as_chunks.ensures.front (omega arith)

pub returns-else-words : goal.returns-else-words
returns-else-words g c = rw (lt-leb _ _ c.if-words.false) (too_short (4 * g.row.N) c.args.s.now (omega (arith, c.as_chunks.ensures.front_len)))
