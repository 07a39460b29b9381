-- What the value of a record of kind 0 says (docs/FORMAT.md, 11.4).
use Rattle.std.specs.Prelude.{ℕ, List, eqb}
use Rattle.record.specs.Broken as broken
use Rattle.record.specs.Kinds.{utf8_string}
use Rattle.record.specs.Record.{Record}
use Rattle.rfc2865.specs.Types.{kind_of}
use Rattle.rfc2865.specs.Writer.{data_in}

-- the record r, whose place points into these bytes
abbrev pub TellsBreak : List ℕ → Record → Type 0
TellsBreak bytes r = broken.TellsBreak (eqb (kind_of r.code) utf8_string) (data_in bytes r) r
