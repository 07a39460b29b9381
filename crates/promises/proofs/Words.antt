-- A number is put over the front of a slice byte by byte: where there is room, its bytes stand from the front on.
use Prim.Native.Nat.{ℕ, ◌≤◌}
use mathlib.Core.Path.{◌≡◌}
use mathlib.Core.List.{List}
use native.Mathlib.Omega.{arith}
use lib.ListN.{length}
use lib.Seq.{sets}
use Rattle.octets.specs.Octets.{octets, put_all}
use Rattle.octets.proofs.Lists.{all_bytes_put}
use Rattle.octets.proofs.Numbers.{length_octets}

pub number_put : (n v : ℕ) (s : List ℕ) → n ≤ length s → sets s 0 (octets n v) ≡ put_all (octets n v) s
number_put n v s h = all_bytes_put (octets n v) s (omega (arith, length_octets n v))
