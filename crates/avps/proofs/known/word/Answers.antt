-- `word` meets its contract: a number of four bytes looks at these four alone.
use Prim.Native.Nat.{◌+◌, ◌-◌}
use mathlib.Core.Path.{◌∙◌}
use native.Mathlib.Omega.{arith}
use Rattle.octets.proofs.Numbers.{be_part}
use Rattle.avps.proofs.known.word.Goals as goal

pub returns : goal.returns
returns c = let at = c.args.at in c.be_u32.ensures ∙ be_part 4 _ (at + 4 - at) at (omega arith)
