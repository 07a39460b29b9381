-- `Fields::put` meets its contract: code, identifier and the two bytes of the length are copied, and the authenticator behind
-- them. It is 16 bytes, as its type says.
use mathlib.Core.Path.{refl, ◌∙◌}
use mathlib.Core.List.{[], ◌∷◌}
use native.Mathlib.Omega.{arith}
use lib.ListN.{get_or}
use Rattle.rfc2865.specs.Packet.{Front}
use Rattle.rfc2865.specs.Writer.{header_bytes}
use Rattle.radius_writer.proofs.Lengths.{sixteen}
use Rattle.radius_writer.proofs.Parts.{two_put, front_bytes}
use Rattle.radius_writer.proofs.Fields.put.Goals as goal

pub returns : goal.returns
unfolding header_bytes
returns c =
    let f = c.args.self in
    let b = c.to_be_u16.result in
    let front : Front = record { code = f.code; identifier = f.identifier; length = c.args.n } in
    rw (c.copy_from_slice.ensures.after, c.copy_from_slice-2.ensures.after)
    (two_put (f.code ∷ f.identifier ∷ get_or b 0 0 ∷ get_or b 1 0 ∷ []) f.authenticator c.args.out.now 4 16 refl
    (sixteen f _ c.well_formed.0)
    ∙ rw (front_bytes front b (omega arith) (omega arith) c.to_be_u16.ensures))
