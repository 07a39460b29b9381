-- Well-formed UTF-8, read from the front. Syntax and Prefix are what to believe; that this says the same is proved (proofs/Grammar:
-- `well_formed_is`, proofs/Prefixes: `longest`).
use Rattle.std.specs.Prelude.{ℕ, Bool, true, false, cond, not, ◌&&◌, ◌||◌, List, [], ◌∷◌, length, leb, eqb}
use Rattle.octets.specs.Run.{Format, tree, tiles, covered}
use Rattle.rfc3629.specs.Abnf.{Range}
use Rattle.rfc3629.specs.Syntax.{Utf8Char}

abbrev pub within : Range → ℕ → Bool
within r b = leb r.low b && leb b r.high

-- do the bytes at the front of s lie in these ranges, one after the other?
abbrev pub matches : List Range → List ℕ → Bool
matches [] s = true
matches (r ∷ rs) [] = false
matches (r ∷ rs) (b ∷ s) = within r b && matches rs s

-- do they, for one of several alternatives?
abbrev pub matches_any : List (List Range) → List ℕ → Bool
matches_any [] s = false
matches_any (rs ∷ rss) s = matches rs s || matches_any rss s

-- how many bytes the first alternative takes that is at the front of s, and 0 where none is
abbrev pub size_at : List (List Range) → List ℕ → ℕ
size_at [] s = 0
size_at (rs ∷ rss) s = cond (matches rs s) (length rs) (size_at rss s)

-- UTF8-char: the size of the one at the front
unfoldable pub char_size : List ℕ → ℕ
char_size s = size_at Utf8Char s

-- UTF8-octets: characters cover the text to its last byte
abbrev pub characters : Format
characters =
    record {
      complete = λ s. not (eqb (char_size s) 0);
      size = char_size;
      nested = λ a. false;
      payload = λ a. [];
    }

unfoldable pub well_formed : List ℕ → Bool
well_formed s = tiles (tree characters s)

-- how many bytes the characters at the front take, as far as they go
unfoldable pub valid_up_to : List ℕ → ℕ
valid_up_to s = length (covered (tree characters s))
