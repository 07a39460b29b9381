-- A packet's result as numbers: the answer's number and amount, then what an acceptance returns (docs/FORMAT.md, 11). What an answer does not
-- return is 0.
use Rattle.std.specs.Prelude.{ℕ, List, [], ◌∷◌}
use Rattle.refusal.specs.Answer.{Refusal, Answer, accepted, refused}
use Rattle.refusal.specs.Refusals.{number_of, amount_of}
use Rattle.record.specs.Counts.{Counts}
use Rattle.rfc2865.specs.Packet as definition
use Rattle.radius.specs.declared.Packet.{Packet}
use Rattle.results.specs.Results.{bytes_alone}

-- number, amount; error flags, records, tried, length; code and identifier
abbrev pub result_of : ℕ → ℕ → Counts → ℕ → ℕ → List ℕ
result_of n a c code identifier =
    n ∷ a ∷ c.errors ∷ c.records ∷ c.tried ∷ c.length ∷ code ∷ identifier ∷ []

abbrev pub counts_of : Packet → Counts
counts_of p = record { errors = p.errors; records = p.records; tried = p.tried; length = p.length }

abbrev pub refusal : Refusal → List ℕ
refusal why = result_of (number_of why) (amount_of why) (bytes_alone 0) 0 0

abbrev pub packet_result : Answer definition.Packet → List ℕ
packet_result (accepted p) = result_of 0 0 p.counts p.header.code p.header.identifier
packet_result (refused why) = refusal why

-- what the writer wrote: its total is the length
abbrev pub written_result : Answer ℕ → List ℕ
written_result (accepted total) = result_of 0 0 (bytes_alone total) 0 0
written_result (refused why) = refusal why
