-- The numbers passed are put with a space after each, and what is left of the line is the line of the others.
use lib.ListN.{drop}
use Rattle.rfc6733.specs.Dump.{line}
use Rattle.lines.proofs.Puts.{Passed}
use Rattle.lines.proofs.put_line.Given as goal

abbrev pub invariant-loop-n : goal.invariant-loop-n
invariant-loop-n l = Passed (line l.numbers) (line (drop l.n-index l.numbers)) l.fn.out l.out l.at
