-- The loop that counts: what is left of the run tiles exactly where the whole does, and has as many items fewer as were counted. At the
-- end nothing is left, and where no attribute is complete neither tiles.
use Prim.Native.Nat.{ℕ, ◌+◌, ◌<◌}
use mathlib.Core.Path.{◌≡◌, refl}
use mathlib.Core.Bool.{false}
use mathlib.Core.List.{List}
use native.Mathlib.Omega.{arith}
use lib.ListN.{length, drop}
use Rattle.std.specs.Prelude.{Some, None}
use Rattle.std.proofs.lemmas.List.{nil_from_length}
use Rattle.octets.specs.Run.{Tree, tree, tiles, items}
use Rattle.octets.proofs.Runs.{tree_none, tree_broken}
use Rattle.rfc2865.specs.Attribute.{complete, attributes}
use Rattle.rfc2865.proofs.Items.{sound}
use Rattle.radius_attributes.specs.Answers.{count_of}
use Rattle.radius_attributes.proofs.Fronts.{Turn}

-- of the run t, n items are counted, and the run r is left
pub record Counting (t r : Tree) (n : ℕ) : Type 0 where
  pub tiles_is : tiles t ≡ tiles r
  pub count_is : length (items t) ≡ n + length (items r)

pub nothing_counted : {t : Tree} → Counting t t 0
nothing_counted = record { tiles_is = refl; count_is = omega arith }

module _ {t : Tree} (s : List ℕ) {k : ℕ} (f : Counting t (tree attributes s) k) where
  pub one_counted : {n : ℕ} → Turn s n → Counting t (tree attributes (drop n s)) (k + 1)
  one_counted turn = let more = rw (turn.goes_on) at f in record { tiles_is = more.tiles_is; count_is = omega (arith, more.count_is) }

  pub all_counted : length s ≡ 0 → Some k ≡ count_of t
  all_counted end =
      let all = rw (nil_from_length s end, tree_none attributes) at f in
      let count : k ≡ length (items t) = omega (arith, all.count_is) in
      rw (all.tiles_is, count)

  pub not_counted : 0 < length s → complete s ≡ false → None ≡ count_of t
  not_counted some none = rw (f.tiles_is, tree_broken attributes sound s some none)
