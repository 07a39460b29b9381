-- The messages that reach demand 3's bound: k groups of 12 bytes, each with a member that is not complete.
use Rattle.std.specs.Prelude.{ℕ, zero, suc, List, [], ◌++◌}
use Rattle.rfc6733.specs.Marked.{failing}
use Rattle.rfc6733.specs.Writer.{message_bytes}

abbrev pub failing_groups : ℕ → List ℕ
failing_groups zero = []
failing_groups (suc k) = failing ++ failing_groups k

unfoldable pub extremal : ℕ → List ℕ
extremal k = message_bytes (record { flags = 0; code = 0; app_id = 0; hop_id = 0; end_id = 0 }) (failing_groups k)
