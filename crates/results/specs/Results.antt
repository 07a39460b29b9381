-- A result as numbers: the answer's number and amount, then what an acceptance returns (docs/FORMAT.md, 7). What an
-- answer does not return is 0.
use Rattle.std.specs.Prelude.{ℕ, List, ◌∷◌, ℤ, pos, negsuc}
use Rattle.std.specs.Prelude.{Option, None, Some}
use Rattle.refusal.specs.Answer.{Refusal, Answer, accepted, refused}
use Rattle.refusal.specs.Refusals.{number_of, amount_of}
use Rattle.rfc6733.specs.Header.{Header, header_layout}
use Rattle.rfc6733.specs.Decoder.{Message}
use Rattle.record.specs.Counts.{Counts}
use Rattle.record.specs.Outline.{Outline, outline_numbers}
use Rattle.std.specs.declared.cmp.Ordering.{Ordering}
use Rattle.std.specs.declared.cmp.Ordering.TheVariants.{Less, Equal, Greater}

-- number, amount; error flags, records, tried, length; the header's fields
abbrev pub result_of : ℕ → ℕ → Counts → Header → List ℕ
result_of n a c h = n ∷ a ∷ c.errors ∷ c.records ∷ c.tried ∷ c.length ∷ header_layout.numbers h

-- so many bytes, and nothing else
abbrev pub bytes_alone : ℕ → Counts
bytes_alone n = record { errors = 0; records = 0; tried = 0; length = n }

-- so many records, and nothing else
abbrev pub records_alone : ℕ → Counts
records_alone n = record { errors = 0; records = n; tried = 0; length = 0 }

abbrev pub no_header : Header
no_header = record { version = 0; length = 0; flags = 0; code = 0; app_id = 0; hop_id = 0; end_id = 0 }

abbrev pub refusal : Refusal → List ℕ
refusal why = result_of (number_of why) (amount_of why) (bytes_alone 0) no_header

-- a message, or the header alone
abbrev pub message_result : Answer Message → List ℕ
message_result (accepted m) = result_of 0 0 m.counts m.header
message_result (refused why) = refusal why

-- one AVP alone
abbrev pub avp_result : Answer Counts → List ℕ
avp_result (accepted c) = result_of 0 0 c no_header
avp_result (refused why) = refusal why

-- what the writer wrote: its total is the length
abbrev pub written_result : Answer ℕ → List ℕ
written_result (accepted total) = result_of 0 0 (bytes_alone total) no_header
written_result (refused why) = refusal why

-- a table that was moved: its records
abbrev pub shifted_result : Answer ℕ → List ℕ
shifted_result (accepted records) = result_of 0 0 (records_alone records) no_header
shifted_result (refused why) = refusal why

-- ---- an outline

-- number, amount; is an AVP found; its outline
abbrev pub outline_result : ℕ → ℕ → ℕ → Outline → List ℕ
outline_result n a found o = n ∷ a ∷ found ∷ outline_numbers o

abbrev pub no_outline : Outline
no_outline = record { code = 0; flags = 0; length = 0; vendor = 0; place = 0; padding = 0; pads = 0 }

abbrev pub found_result : Answer (Option Outline) → List ℕ
found_result (accepted (Some o)) = outline_result 0 0 1 o
found_result (accepted None) = outline_result 0 0 0 no_outline
found_result (refused why) = outline_result (number_of why) (amount_of why) 0 no_outline

-- ---- a comparison

abbrev pub sign_of : Ordering → ℤ
sign_of Less = negsuc 0
sign_of Equal = pos 0
sign_of Greater = pos 1
