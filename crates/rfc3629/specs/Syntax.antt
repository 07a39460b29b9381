-- The syntax of RFC 3629, section 4, each line beside the RFC's own. UTF8-tail is the last line there; the others name it, so it stands first.
use Rattle.std.specs.Prelude.{ℕ, List, [], ◌∷◌, ◌++◌}
use Rattle.rfc3629.specs.Abnf.{Range, range, byte, OneOf, Repeated}

-- UTF8-tail   = %x80-BF
abbrev pub Utf8Tail : Range
Utf8Tail = range 0x80 0xBF

-- UTF8-1      = %x00-7F
abbrev pub Utf8_1 : List (List Range)
Utf8_1 = (range 0x00 0x7F ∷ []) ∷ []

-- UTF8-2      = %xC2-DF UTF8-tail
abbrev pub Utf8_2 : List (List Range)
Utf8_2 = (range 0xC2 0xDF ∷ Utf8Tail ∷ []) ∷ []

-- UTF8-3      = %xE0 %xA0-BF UTF8-tail / %xE1-EC 2( UTF8-tail ) /
--               %xED %x80-9F UTF8-tail / %xEE-EF 2( UTF8-tail )
abbrev pub Utf8_3 : List (List Range)
Utf8_3 =
    (byte 0xE0 ∷ range 0xA0 0xBF ∷ Utf8Tail ∷ [])
    ∷ (range 0xE1 0xEC ∷ Utf8Tail ∷ Utf8Tail ∷ [])
    ∷ (byte 0xED ∷ range 0x80 0x9F ∷ Utf8Tail ∷ [])
    ∷ (range 0xEE 0xEF ∷ Utf8Tail ∷ Utf8Tail ∷ [])
    ∷ []

-- UTF8-4      = %xF0 %x90-BF 2( UTF8-tail ) / %xF1-F3 3( UTF8-tail ) /
--               %xF4 %x80-8F 2( UTF8-tail )
abbrev pub Utf8_4 : List (List Range)
Utf8_4 =
    (byte 0xF0 ∷ range 0x90 0xBF ∷ Utf8Tail ∷ Utf8Tail ∷ [])
    ∷ (range 0xF1 0xF3 ∷ Utf8Tail ∷ Utf8Tail ∷ Utf8Tail ∷ [])
    ∷ (byte 0xF4 ∷ range 0x80 0x8F ∷ Utf8Tail ∷ Utf8Tail ∷ [])
    ∷ []

-- UTF8-char   = UTF8-1 / UTF8-2 / UTF8-3 / UTF8-4
abbrev pub Utf8Char : List (List Range)
Utf8Char = Utf8_1 ++ Utf8_2 ++ Utf8_3 ++ Utf8_4

-- UTF8-octets = *( UTF8-char )
abbrev pub Utf8Octets : List ℕ → Type 0
Utf8Octets = Repeated (OneOf Utf8Char)
