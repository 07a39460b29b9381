-- The rules of a record that none of its tests refuses. A rule that is broken needs no law: it makes the definition's
-- conjunction false, wherever it stands.
use Prim.Native.Nat.{ℕ, ◌≤◌, ◌<◌}
use mathlib.Core.Path.{◌≡◌}
use mathlib.Core.Bool.{false, and-false}
use native.Mathlib.Omega.{arith}
use borrow.Author.Tests.{le-leb, lt-leb}
use Rattle.record.specs.Record.{Record}
use Rattle.rfc6733.specs.Writer.{keeps}

-- the depth that is allowed, asked apart
module _ (allowed n : ℕ) (r : Record) where
  pub stepped : allowed < r.depth → keeps allowed n r ≡ false
  unfolding keeps
  stepped h = simp (lt-leb r.depth allowed h, and-false)

  pub not_stepped : r.depth ≤ allowed → keeps r.depth n r ≡ keeps allowed n r
  unfolding keeps
  not_stepped h = let own : r.depth ≤ r.depth = omega arith in rw (le-leb r.depth allowed h, le-leb r.depth r.depth own)

-- there is no depth 0
pub no_depth : (allowed n : ℕ) (r : Record) → r.depth < 1 → keeps allowed n r ≡ false
unfolding keeps
no_depth allowed n r h = simp (lt-leb 1 r.depth h)
