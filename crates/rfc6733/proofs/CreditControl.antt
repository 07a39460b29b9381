-- The tables of the editions beside one another and beside RFC 6733's: a row that is in two of them has one kind, row by row. And the
-- dictionary of a number is one of three.
use Prim.Native.Nat.{ℕ}
use mathlib.Core.Path.{◌≡◌, refl}
use mathlib.Core.Bool.{Bool, true, false, cond}
use mathlib.Core.List.{List, ◌++◌, map}
use lib.Dec.{eqb}
use Rattle.rfc6733.specs.Dictionary.{Dictionary, base_avps, rfc}
use Rattle.record.specs.Rows.{Row, kind_in}
use Rattle.rfc6733.specs.CreditControl.{avps4006, avps8506, rfc4006, rfc8506, edition_of}

-- each row of a table has its kind in another
abbrev pub Kept : List Row → List Row → Type 0
Kept rs ts = map (λ r. kind_in ts r.code) rs ≡ map (λ r. r.kind) rs

-- no edition moves a code of RFC 6733
pub base_kept : Kept base_avps (avps4006 ++ base_avps) × Kept base_avps (avps8506 ++ base_avps)
base_kept = (refl, refl)

-- and the newer one moves none of the older's
pub older_kept : Kept avps4006 avps8506
older_kept = refl

-- what holds of both editions' dictionaries and of the RFC reading's holds of that of any number
pub each_edition : (P : Dictionary → Type 0) → P rfc4006 → P rfc8506 → P rfc → (n : ℕ) → P (edition_of n)
unfolding edition_of
each_edition P older newer neither n = by (eqb n 4006) (eqb n 8506)
  where
    by : (a b : Bool) → P (cond a rfc4006 (cond b rfc8506 rfc))
    by true b = older
    by false true = newer
    by false false = neither
