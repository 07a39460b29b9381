-- A contract that says `value_as v ≡ ..` names one outcome: the value's fields are read back from the definition's.
use mathlib.Core.Path.{◌≡◌, ap}
use Rattle.record.specs.Value as values
use Rattle.radius_value.specs.declared.Value.{Value}
use Rattle.radius_value.specs.Values.{value_as}

abbrev back : values.Value → Value
back v = record { kind = v.kind; number = v.number; errors = v.errors }

pub value_as_injective : (v w : Value) → value_as v ≡ value_as w → v ≡ w
value_as_injective v w e = ap back e
