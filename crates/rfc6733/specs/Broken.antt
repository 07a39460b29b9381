-- What the value of a record of kind 0 says, by a dictionary (docs/FORMAT.md, 4.4 and 6.2).
use Rattle.std.specs.Prelude.{ℕ, List}
use Rattle.record.specs.Broken as broken
use Rattle.record.specs.Record.{Record}
use Rattle.rfc6733.specs.Value.{texts, one_of}
use Rattle.rfc6733.specs.Dictionary.{Dictionary}
use Rattle.rfc6733.specs.Writer.{data_in}

-- the record r, whose place points into these bytes
abbrev pub TellsBreak : Dictionary → List ℕ → Record → Type 0
TellsBreak D bytes r = broken.TellsBreak (one_of (D.kind r.code r.vendor) texts) (data_in bytes r) r
