-- What the code makes of data, as a value of the definition.
use Rattle.record.specs.Value as values
use Rattle.radius_value.specs.declared.Value.{Value}

abbrev pub value_as : Value → values.Value
value_as v = record { kind = v.kind; errors = v.errors; number = v.number }
