-- A table that is too short is read as its front.
use Rattle.std.proofs.Common.{◌∙◌, arith}
use Rattle.word.proofs.Absent.{value_of_front}
use Rattle.record.specs.Record.{record_layout, record_at}
use Rattle.record.proofs.Record.read.Goals as goal

pub returns-then-table-lt-SIZE : goal.returns-then-table-lt-SIZE
unfolding record_at
returns-then-table-lt-SIZE c = c.all_fields.ensures ∙ value_of_front 36 _ c.padded.ensures record_layout (omega arith)
