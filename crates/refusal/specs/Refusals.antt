-- The number and the amount of each refusal (docs/FORMAT.md, 7.1). One that has no amount has 0.
use Rattle.std.specs.Prelude.{ℕ}
use Rattle.refusal.specs.Answer.{Refusal}
use Rattle.refusal.specs.declared.Refusal.TheVariants.{Incomplete, NotVersion, BadLength, NotTiled, TooDeep, NoRecords, BadDepth, BadHeader, BadTable, TooLong, NoRoom, BadEdition, BadExponent}

abbrev pub number_of : Refusal → ℕ
number_of (Incomplete n) = 1
number_of NotVersion = 2
number_of BadLength = 3
number_of NotTiled = 4
number_of TooDeep = 5
number_of (NoRecords n) = 6
number_of BadDepth = 7
number_of BadHeader = 8
number_of (BadTable n) = 9
number_of TooLong = 10
number_of (NoRoom n) = 11
number_of BadEdition = 12
number_of BadExponent = 13

abbrev pub amount_of : Refusal → ℕ
amount_of (Incomplete n) = n
amount_of NotVersion = 0
amount_of BadLength = 0
amount_of NotTiled = 0
amount_of TooDeep = 0
amount_of (NoRecords n) = n
amount_of BadDepth = 0
amount_of BadHeader = 0
amount_of (BadTable n) = n
amount_of TooLong = 0
amount_of (NoRoom n) = n
amount_of BadEdition = 0
amount_of BadExponent = 0
