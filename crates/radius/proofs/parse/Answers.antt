-- `parse` meets its contract: an accepted packet has its header, so the authenticator is there.
use mathlib.Core.Path.{sym}
use native.Mathlib.Omega.{arith}
use Rattle.rfc2865.proofs.Accepted.{when_accepted}
use Rattle.radius.proofs.parse.Goals as goal

pub authenticator-authenticator-requires : goal.authenticator-authenticator-requires
authenticator-authenticator-requires c =
    let header = (when_accepted _ c.args.input.now _ (sym c.in-Ok.ensures.answer)).header in
    omega (arith, header.least, header.there)
