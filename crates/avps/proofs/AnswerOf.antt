-- The contract of `parse_avps` names one outcome: it can be read back from its answer, since what an acceptance returns is told by its
-- fields.
use mathlib.Core.Path.{◌≡◌, refl}
use Rattle.std.specs.Prelude.{Result}
use Rattle.refusal.specs.Answer.{Refusal}
use Rattle.refusal.proofs.AnswerOf.{answer_by_injective}
use Rattle.record.specs.Counts as definition
use Rattle.avps.specs.declared.Counts.{Counts}
use Rattle.avps.specs.Answers.{counts_as, answer_of}

abbrev counts_back : definition.Counts → Counts
counts_back c = record { errors = c.errors; records = c.records; tried = c.tried; length = c.length }

counts_are_back : (c : Counts) → counts_back (counts_as c) ≡ c
unfolding counts_as
counts_are_back c = refl

pub answer_of_injective : (r r' : Result Counts Refusal) → answer_of r ≡ answer_of r' → r ≡ r'
answer_of_injective r r' e = answer_by_injective counts_as counts_back counts_are_back r r' e
