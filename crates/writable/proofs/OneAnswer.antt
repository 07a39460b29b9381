-- `AnswerFor` names one answer, since there are header fields with any code and bytes of any number.
use Prim.Native.Nat.{ℕ}
use mathlib.Core.Path.{◌≡◌, refl, sym, ◌∙◌}
use mathlib.Core.List.{List}
use lib.ListN.{length, replicate, length-replicate}
use Rattle.refusal.specs.Answer.{Answer}
use Rattle.rfc6733.specs.Writer.{Fields}
use Rattle.writable.specs.Answers.{AnswerFor}

pub one_answer : (code : ℕ) (table : List ℕ) (available room : ℕ) (a b : Answer ℕ) → AnswerFor code table available room a
    → AnswerFor code table available room b → a ≡ b
one_answer code table available room a b p q =
    let f : Fields = record { flags = 0; code = code; app_id = 0; hop_id = 0; end_id = 0 } in
    let pool : List ℕ = replicate available 0 in
    let there : length pool ≡ available = length-replicate available 0 in
    p f pool refl there ∙ sym (q f pool refl there)
