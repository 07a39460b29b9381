-- `char_size` meets its contract: it asks the line that the first byte leaves, where the text has bytes enough for it, and the other lines do
-- not match. A line that asks for more bytes than there are does not match, and no line looks at more bytes than it asks for.
use mathlib.Core.Path.{◌≡◌, refl}
use mathlib.Core.Bool.{false}
use native.Mathlib.Omega.{arith}
use Rattle.rfc3629.specs.Syntax.{Utf8_1, Utf8_2, Utf8_3, Utf8_4}
use Rattle.rfc3629.specs.Utf8.{matches_any}
use Rattle.rfc3629.proofs.Lines.{short, size_is}
use Rattle.utf8.proofs.FirstByte.{said_1, line_2, from_3, line_3, from_4, line_4}
use Rattle.utf8.proofs.first_byte.char_size.Goals as goal
use Rattle.utf8.proofs.first_byte.char_size.Goals.{Else-is_utf8_1}

pub returns-in-len1-up : goal.returns-in-len1-up
returns-in-len1-up c =
    let s = c.args.s.now in size_is s (said_1 s (omega arith) c.is_utf8_1.ensures c.if-is_utf8_1.true) refl refl refl

-- UTF8-1 did not match
not_1 : (c : Else-is_utf8_1) → matches_any Utf8_1 c.args.s.now ≡ false
not_1 c = said_1 c.args.s.now (omega arith) c.is_utf8_1.ensures c.if-is_utf8_1.false

pub returns-in-len2-up : goal.returns-in-len2-up
returns-in-len2-up c =
    let other = not_1 (goal.at.returns-in-len2-up c).Else-is_utf8_1 in
    line_2 _ other c.if-a-le223.true (omega arith) c.is_utf8_2.ensures c.size_if.ensures

pub returns-in-len3-up : goal.returns-in-len3-up
returns-in-len3-up c =
    line_3 _ c.if-a-le223.false c.if-a-le239.true (omega arith) c.is_utf8_3.ensures c.size_if-in-len3-up.ensures

pub returns-in-len4-up : goal.returns-in-len4-up
returns-in-len4-up c = line_4 _ c.if-a-le239.false (omega arith) c.is_utf8_4.ensures c.size_if-in-len4-up.ensures

-- ---- the bytes are too few for the lines that are left

pub returns-in_default : goal.returns-in_default
returns-in_default c =
    let s = c.args.s.now in
    size_is s (short 1 Utf8_1 refl s (omega arith)) (short 2 Utf8_2 refl s (omega arith))
    (short 3 Utf8_3 refl s (omega arith)) (short 4 Utf8_4 refl s (omega arith))

pub returns-in_default-2 : goal.returns-in_default-2
returns-in_default-2 c =
    let s = c.args.s.now in
    size_is s (not_1 (goal.at.returns-in_default-2 c).Else-is_utf8_1) (short 2 Utf8_2 refl s (omega arith))
    (short 3 Utf8_3 refl s (omega arith)) (short 4 Utf8_4 refl s (omega arith))

pub returns-in_default-3 : goal.returns-in_default-3
returns-in_default-3 c =
    let s = c.args.s.now in
    from_3 s c.if-a-le223.false (short 3 Utf8_3 refl s (omega arith)) (short 4 Utf8_4 refl s (omega arith))

pub returns-in_default-4 : goal.returns-in_default-4
returns-in_default-4 c = let s = c.args.s.now in from_4 s c.if-a-le239.false (short 4 Utf8_4 refl s (omega arith))
