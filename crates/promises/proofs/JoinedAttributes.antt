-- Joining two runs of attributes (RADIUS): the second's records are shifted as a Diameter run's are, so
-- `rules::shifting::shift` moves their tables too. Over rfc2865/proofs/Joining, which says where they stand.
use Prim.Native.Nat.{ℕ, ◌+◌}
use mathlib.Core.Path.{◌≡◌, refl, ap, ◌∙◌}
use mathlib.Core.Bool.{true}
use mathlib.Core.List.{List, [], ◌∷◌, ◌++◌, map}
use native.Mathlib.Omega.{arith}
use lib.ListN.{length}
use Rattle.octets.specs.Run.{tree, tiles, items}
use Rattle.record.specs.Record.{Record}
use Rattle.rfc6733.specs.Joining.{shifted}
use Rattle.rfc2865.specs.Attribute.{head_size, attributes}
use Rattle.rfc2865.specs.Records.{record_of, records}
use Rattle.rfc2865.proofs.Joining.{joining}

-- all are at depth 1, so the count doesn't matter
attributes_shifted : (bytes count place : ℕ) (run : List (List ℕ))
    → records (place + bytes) run ≡ map (shifted bytes count) (records place run)
unfolding record_of shifted
attributes_shifted bytes count place [] = refl
attributes_shifted bytes count place (a ∷ run) =
    let here : place + bytes + head_size ≡ bytes + (place + head_size) = omega arith in
    let next : place + bytes + length a ≡ place + length a + bytes = omega arith in
    rw (here, next, attributes_shifted bytes count (place + length a) run)

pub joined_attributes : (place count : ℕ) (s x : List ℕ) → tiles (tree attributes s) ≡ true
    → tiles (tree attributes x) ≡ true
    → let rs = records place (items (tree attributes s)) in
    let ts = records place (items (tree attributes x)) in
    records place (items (tree attributes (s ++ x))) ≡ rs ++ map (shifted (length s) count) ts
joined_attributes place count s x first second =
    let run = items (tree attributes x) in
    (joining place s x first second).records_are
    ∙ ap (λ (ts : List Record). records place (items (tree attributes s)) ++ ts)
    (attributes_shifted (length s) count place run)
