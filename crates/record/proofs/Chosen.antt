-- What holds of both values holds of the one that a test chooses.
use mathlib.Core.Bool.{Bool, true, false, cond}
use Rattle.record.specs.Value.{Value}

pub either : (P : Value → Type 0) {v w : Value} (b : Bool) → P v → P w → P (cond b v w)
either P true hv hw = hv
either P false hv hw = hw
