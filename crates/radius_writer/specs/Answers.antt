-- What the writer is given and leaves, in the definition's words.
use Rattle.std.specs.Prelude.{ℕ, List, Result}
use Rattle.record.specs.Store.{output}
use Rattle.rfc2865.specs.Packet.{Header}
use Rattle.rfc2865.specs.Writer.{table_bytes}
use Rattle.radius_writer.specs.declared.Fields.{Fields}
use Rattle.refusal.specs.Answer.{Refusal, answer_of}

abbrev pub header_as : Fields → Header
header_as f = record { code = f.code; identifier = f.identifier; authenticator = f.authenticator }

-- the output afterwards
abbrev pub output_after : Header → List ℕ → List ℕ → List ℕ → Result ℕ Refusal → List ℕ
output_after h table pool out r = output (answer_of r) (table_bytes h table pool) out
