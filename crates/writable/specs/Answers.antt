-- What the writer answers, by what is known before a byte is written.
use Rattle.std.specs.Prelude.{ℕ, ◌≡◌, List, length}
use Rattle.refusal.specs.Answer.{Answer}
use Rattle.rfc6733.specs.Writer.{Fields, written}

-- the definition's answer, whatever the header's other fields are, and the bytes that places point into
abbrev pub AnswerFor : (code : ℕ) (table : List ℕ) (available room : ℕ) → Answer ℕ → Type 0
AnswerFor code table available room a =
    (f : Fields) (pool : List ℕ) → f.code ≡ code → length pool ≡ available → a ≡ written f table pool room
