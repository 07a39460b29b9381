-- The longest prefix of a text that is well-formed: where the text broke, if it did.
use Rattle.std.specs.Prelude.{ℕ, ◌≤◌, ◌<◌, List, length, take}
use Rattle.rfc3629.specs.Syntax.{Utf8Octets}

-- the first n bytes of s are the longest such prefix:
pub record LongestPrefix (s : List ℕ) (n : ℕ) : Type 0 where
  -- a prefix,
  pub is_prefix : n ≤ length s
  -- well-formed,
  pub well_formed_lem : Utf8Octets (take n s)
  -- and no longer one is
  pub no_longer : (m : ℕ) → n < m → m ≤ length s → Utf8Octets (take m s) → ⊥
