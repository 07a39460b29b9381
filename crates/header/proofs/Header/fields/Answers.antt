-- `fields` meets its contract: each word is read at its place in the 20 bytes. The first two hold two fields each, a byte and three bytes,
-- which are the word's quotient and its remainder.
use mathlib.Core.Path.{◌∙◌}
use native.Mathlib.Omega.{arith}
use lib.ListN.{length-take}
use Rattle.octets.specs.Octets.{Bytes}
use Rattle.octets.proofs.Numbers.{be_take, be_part}
use Rattle.octets.proofs.Words.{high_byte, low_three}
use Rattle.rfc6733.specs.Header.{header_of}
use Rattle.header.specs.Parsed.{header_as}
use Rattle.header.proofs.Header.fields.Goals as goal

pub returns : goal.returns
unfolding header_as header_of
returns c =
    let s = c.args.input.now in
    let bytes : Bytes s = λ i. omega (arith, c.type_inv.input i) in
    rw (
      c.be_u32-version_length.ensures ∙ be_take 4 s 4 0 (omega arith),
      c.be_u32-flags_code.ensures ∙ be_part 4 s 4 4 (omega arith),
      c.be_u32.ensures ∙ be_part 4 s 4 8 (omega arith),
      c.be_u32-2.ensures ∙ be_part 4 s 4 12 (omega arith),
      c.be_u32-3.ensures ∙ be_part 4 s 4 16 (omega arith),
      high_byte s bytes 0,
      low_three s bytes 0,
      high_byte s bytes 4,
      low_three s bytes 4,
    )

pub slice_bounds-be_u32-end : goal.slice_bounds-be_u32-end
slice_bounds-be_u32-end c = omega (arith, length-take 4 c.args.input.now, c.requires)

pub slice_bounds-be_u32-count : goal.slice_bounds-be_u32-count
slice_bounds-be_u32-count c = omega arith

pub slice_bounds-be_u32-count-2 : goal.slice_bounds-be_u32-count-2
slice_bounds-be_u32-count-2 c = omega arith

pub slice_bounds-be_u32-count-3 : goal.slice_bounds-be_u32-count-3
slice_bounds-be_u32-count-3 c = omega arith

pub slice_bounds-be_u32-count-4 : goal.slice_bounds-be_u32-count-4
slice_bounds-be_u32-count-4 c = omega arith
