-- What reading a run answers (docs/FORMAT.md, 7): it is refused as it does not fit, and else its counts are answered.
use Rattle.std.specs.Prelude.{ℕ, List, Result}
use Rattle.refusal.specs.Answer.{Refusal, Answer, answer, answer_by}
use Rattle.rfc6733.specs.Dictionary.{Dictionary}
use Rattle.record.specs.Counts as definition
use Rattle.rfc6733.specs.Decoder.{run_records, run_counts}
use Rattle.record.specs.Store.{stored}
use Rattle.fits.specs.Fitting.{refusals}
use Rattle.avps.specs.declared.Counts.{Counts}

unfoldable pub counts_as : Counts → definition.Counts
counts_as c = record { errors = c.errors; records = c.records; tried = c.tried; length = c.length }

abbrev pub answer_of : Result Counts Refusal → Answer definition.Counts
answer_of r = answer_by counts_as r

-- by the dictionary, the depth limit, how many records there is room for, the place and the run
unfoldable pub run_answer : Dictionary → ℕ → ℕ → ℕ → List ℕ → Answer definition.Counts
run_answer D limit room place s = answer (refusals D limit room place s) (run_counts D place s)

-- the store afterwards
abbrev pub store_after_run : Dictionary → ℕ → List ℕ → List ℕ → Result Counts Refusal → List ℕ
store_after_run D place s store r = stored (answer_of r) (run_records D place s) store
