-- The code joins its tests from the left and the definition from the right.
use Rattle.std.proofs.Common.{rules}
use Rattle.rfc3629.proofs.Rows.{row_4, three_rows}
use Rattle.rfc3629.proofs.is_utf8_4.Goals as goal

pub returns : goal.returns
returns c = search (rules, row_4, three_rows)
