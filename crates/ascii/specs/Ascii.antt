-- ASCII at the front of a text, which the check passes many bytes at a time.
use Rattle.std.specs.Prelude.{ℕ, suc, Bool, true, cond, ◌&&◌, List, [], ◌∷◌}
use Rattle.rfc3629.specs.Syntax.{Utf8_1}
use Rattle.rfc3629.specs.Utf8.{matches_any}

-- how many bytes at the front are UTF8-1
abbrev pub ascii_run : List ℕ → ℕ
ascii_run [] = 0
ascii_run (b ∷ s) = cond (matches_any Utf8_1 (b ∷ [])) (suc (ascii_run s)) 0

-- are all bytes UTF8-1?
abbrev pub all_ascii : List ℕ → Bool
all_ascii [] = true
all_ascii (b ∷ s) = matches_any Utf8_1 (b ∷ []) && all_ascii s
