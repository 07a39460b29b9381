-- `is_utf8_3` meets its contract: behind E0 and ED it asks the line of the syntax, and behind all else the line asks for two tails.
use mathlib.Core.Path.{ap₂, ◌∙◌}
use mathlib.Core.Bool.{◌&&◌}
use native.Mathlib.Omega.{arith}
use Rattle.utf8.proofs.FirstByte.{two_tails}
use Rattle.utf8.proofs.first_byte.is_utf8_3.Goals as goal

pub returns : goal.returns
returns c =
    let args = c.args in
    ap₂ ◌&&◌ c.is_tail.ensures c.is_tail-2.ensures
    ∙ two_tails args.a args.b args.c (omega arith) (omega arith) c.if-a.false
