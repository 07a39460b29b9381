pub mod UnitValues
