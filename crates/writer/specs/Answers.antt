-- What the writer is given and leaves, in the definition's words.
use Rattle.std.specs.Prelude.{ℕ, List, Result}
use Rattle.record.specs.Store.{output}
use Rattle.rfc6733.specs.Writer as definition
use Rattle.writer.specs.declared.Fields.{Fields}
use Rattle.refusal.specs.Answer.{Refusal, answer_of}

unfoldable pub fields_as : Fields → definition.Fields
fields_as f = record { flags = f.flags; code = f.code; app_id = f.app_id; hop_id = f.hop_id; end_id = f.end_id }

-- the output afterwards
abbrev pub output_after : definition.Fields → List ℕ → List ℕ → List ℕ → Result ℕ Refusal → List ℕ
output_after f table pool out r = output (answer_of r) (definition.table_bytes f table pool) out
