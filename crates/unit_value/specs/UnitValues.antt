-- How two Unit-Values stand (RFC 4006 and RFC 8506, sections 8.8 to 8.10): each is Value-Digits times ten to the
-- Exponent. Times ten to the 18 both are whole numbers, so nothing is divided and nothing is rounded.
use Rattle.std.specs.Prelude.{ℕ, ◌*◌, ◌^◌, Bool, not, cond, ◌&&◌, [], ◌∷◌, ℤ, pos, negsuc, nat_abs, ◌+ℤ◌, ◌*ℤ◌}
use Rattle.std.specs.Int.Signed.{lt_z, le_z}
use Rattle.std.specs.declared.cmp.Ordering.{Ordering}
use Rattle.std.specs.declared.cmp.Ordering.TheVariants.{Less, Equal, Greater}
use Rattle.refusal.specs.Answer.{Answer, refuse, answer}
use Rattle.refusal.specs.declared.Refusal.TheVariants.{BadExponent}
use Rattle.unit_value.specs.declared.UnitValue.{UnitValue}
use Rattle.unit_value.specs.declared.Magnitude.{Magnitude}

-- how one whole number stands to another
unfoldable pub order : ℤ → ℤ → Ordering
order x y = cond (lt_z x y) Less (cond (lt_z y x) Greater Equal)

-- an Exponent that is taken: -18..18
unfoldable pub in_range : ℤ → Bool
in_range e = le_z (negsuc 17) e && le_z e (pos 18)

unfoldable pub tens : ℤ → ℕ
tens e = nat_abs (e +ℤ pos 18)

-- a value times ten to the 18
unfoldable pub scaled : UnitValue → ℤ
scaled u = u.digits *ℤ pos (10 ^ tens u.exponent)

-- a magnitude of the code as a number
abbrev pub magnitude : Magnitude → ℕ
magnitude m = m.digits * 10 ^ m.tens

unfoldable pub compared : UnitValue → UnitValue → Answer Ordering
compared u v =
    answer (refuse (not (in_range u.exponent && in_range v.exponent)) BadExponent ∷ []) (order (scaled u) (scaled v))
