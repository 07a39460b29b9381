-- The text of a table's records, and that of a message.
use Rattle.std.specs.Prelude.{ℕ, List, ◌++◌}
use Rattle.record.specs.Table.{whole_records}
use Rattle.record.specs.Counts.{Counts}
use Rattle.rfc6733.specs.Dump.{record_lines, first_line, line, lines_text}

-- the lines of the first n records of a table, and those of a message with its own first
abbrev pub records_text : ℕ → List ℕ → List ℕ
records_text n s = lines_text (record_lines (whole_records n s))

abbrev pub message_text : Counts → List ℕ → List ℕ
message_text c s = line (first_line c) ++ records_text c.records s
