-- `pads` meets its contract: a byte that is absent counts as 0 in the word too, of which the first three bytes are the quotient by 256.
use Prim.Native.Nat.{ℕ, ◌/◌}
use mathlib.Core.Path.{ap, ◌∙◌}
use native.Mathlib.Omega.{arith}
use Rattle.octets.proofs.Words.{high_three}
use Rattle.front.proofs.pads.Goals as goal

pub returns : goal.returns
returns c =
    ap (λ (w : ℕ). w / 256) c.be_u32.ensures ∙ high_three c.args.p.now (λ i. omega (arith, c.type_inv.p i)) 0
