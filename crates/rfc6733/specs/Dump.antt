-- The dump (docs/FORMAT.md, 9): the numbers of each line, and the text that they make.
use Rattle.std.specs.Prelude.{ℕ, zero, suc, ◌+◌, ◌/◌, ◌%◌, cond, List, [], ◌∷◌, ◌++◌, take, ltb}
use Rattle.refusal.specs.Answer.{Refusal, Answer, accepted, refused}
use Rattle.refusal.specs.Refusals.{number_of, amount_of}
use Rattle.rfc6733.specs.Avp.{most_depth}
use Rattle.rfc6733.specs.Dictionary.{sawp}
use Rattle.record.specs.Record.{Record}
use Rattle.rfc6733.specs.Decoder.{Message, decoded, message_records}
use Rattle.record.specs.Counts.{Counts}

-- ---- the lines as numbers

pub data Dump : Type 0 where
  lines : List (List ℕ) → Dump
  refusal : Refusal → Dump

-- depth, code, vendor, kind, error flags, length, value, parent
abbrev pub record_line : Record → List ℕ
record_line r = r.depth ∷ r.code ∷ r.vendor ∷ r.kind ∷ r.errors ∷ r.length ∷ r.value ∷ r.parent ∷ []

abbrev pub record_lines : List Record → List (List ℕ)
record_lines [] = []
record_lines (r ∷ rs) = record_line r ∷ record_lines rs

-- length, message flags, records, tried
abbrev pub first_line : Counts → List ℕ
first_line c = c.length ∷ c.errors ∷ c.records ∷ c.tried ∷ []

unfoldable pub dump : Answer Message → List Record → Dump
dump (accepted m) rs = lines (first_line m.counts ∷ record_lines rs)
dump (refused why) rs = refusal why

-- ---- the text, in ASCII

abbrev pub digit : ℕ → ℕ
digit d = 48 + d

-- a number in decimal with k digits at most, the highest first and none before it that is 0
abbrev pub decimal_in : ℕ → ℕ → List ℕ
decimal_in zero n = []
decimal_in (suc k) n = let more = decimal_in k (n / 10) in cond (ltb n 10) [] more ++ (digit (n % 10) ∷ [])

-- 64 bits have 20 digits at most
unfoldable pub decimal : ℕ → List ℕ
decimal n = decimal_in 20 n

-- a line: decimal numbers, one space between, and a newline
abbrev pub line : List ℕ → List ℕ
line [] = 10 ∷ []
line (n ∷ []) = decimal n ++ (10 ∷ [])
line (n ∷ m ∷ ns) = decimal n ++ (32 ∷ line (m ∷ ns))

abbrev pub lines_text : List (List ℕ) → List ℕ
lines_text [] = []
lines_text (l ∷ ls) = line l ++ lines_text ls

-- the word `refused`
abbrev pub refused_word : List ℕ
refused_word = 114 ∷ 101 ∷ 102 ∷ 117 ∷ 115 ∷ 101 ∷ 100 ∷ []

-- the line of a refusal: the word, its number and its amount
abbrev pub refusal_text : Refusal → List ℕ
refusal_text why = refused_word ++ (32 ∷ line (number_of why ∷ amount_of why ∷ []))

unfoldable pub dump_text : Dump → List ℕ
dump_text (lines ls) = lines_text ls
dump_text (refusal why) = refusal_text why

-- what the dump writes: up to 32,768 bytes of input, in the sawp reading, with 64 levels and 1,024 records
unfoldable pub dumped : List ℕ → List ℕ
dumped s = let front = take 32768 s in dump_text (dump (decoded sawp most_depth 1024 front) (message_records sawp front))
