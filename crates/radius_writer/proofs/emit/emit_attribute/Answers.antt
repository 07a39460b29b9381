-- `emit_attribute` meets its contract: type and length are copied, and the data behind them.
use Prim.Native.Nat.{ℕ, ◌+◌, ◌-◌}
use mathlib.Core.Path.{◌≡◌, refl, ◌∙◌}
use mathlib.Core.List.{List, [], ◌∷◌}
use native.Mathlib.Omega.{arith}
use lib.ListN.{length, take, drop, length-drop}
use lib.Seq.{length-take-le}
use Rattle.rfc2865.specs.Attribute.{Head}
use Rattle.rfc2865.specs.Writer.{stated_data, data_in, attribute_bytes}
use Rattle.radius_writer.proofs.Parts.{two_put, head_bytes}
use Rattle.radius_writer.proofs.emit.emit_attribute.Goals as goal

pub returns : goal.returns
unfolding attribute_bytes
returns c =
    let r = c.args.r in
    let pool = c.args.pool.now in
    let head : Head = record { code = r.code; length = r.length } in
    let n : r.place + (r.length - 2) - r.place ≡ stated_data r = omega arith in
    let size : length (data_in pool r) ≡ stated_data r =
    length-take-le (stated_data r) (drop r.place pool) (omega (arith, length-drop r.place pool)) in
    let src : List ℕ = take (r.place + (r.length - 2) - r.place) (drop r.place pool) in
    rw (c.copy_from_slice.ensures.after, c.copy_from_slice-2.ensures.after)
    (two_put (r.code ∷ r.length ∷ []) src c.args.out.now 2 (r.length - 2) refl (rw n size)
    ∙ rw (n, head_bytes head (omega arith) (omega arith)))
