-- A table that is too short is read as its front.
use Rattle.std.proofs.Common.{◌∙◌, ap, arith}
use Rattle.word.proofs.Absent.{value_of_front}
use Rattle.record.specs.Record.{record_layout, record_at}
use Rattle.record.specs.Table.{bare, entry_at}
use Rattle.record.proofs.Record.get.Goals as goal

pub returns-then-table-lt-SIZE : goal.returns-then-table-lt-SIZE
unfolding entry_at record_at
returns-then-table-lt-SIZE c = c.fields.ensures ∙ ap bare (value_of_front 36 _ c.padded.ensures record_layout (omega arith))
