-- Whether a run can be read (docs/FORMAT.md, 7): the refusals that a message has past its header, in their order. Before them is the
-- limit's, and the run's own, where a place would not fit its four bytes.
use Rattle.std.specs.Prelude.{ℕ, List, ◌++◌}
use Rattle.octets.specs.Run.{tree}
use Rattle.refusal.specs.Answer.{Answer, Test, answer}
use Rattle.record.specs.Refusals.{place_refusals}
use Rattle.rfc6733.specs.Dictionary.{Dictionary}
use Rattle.rfc6733.specs.Records.{avps}
use Rattle.rfc6733.specs.Decoder.{limit_refusals, run_refusals}
use Rattle.count.specs.declared.Sums.{Sums}
use Rattle.count.specs.Counts.{sums}

-- by the dictionary, the depth limit, how many records there is room for, the place and the run
abbrev pub refusals : Dictionary → ℕ → ℕ → ℕ → List ℕ → List Test
refusals D limit room place s = place_refusals place s ++ (limit_refusals limit ++ run_refusals D limit room place s)

unfoldable pub fitting_of : Dictionary → ℕ → ℕ → ℕ → List ℕ → Answer Sums
fitting_of D limit room place s = answer (refusals D limit room place s) (sums (tree (avps D) s))
