-- A contract that says `answer_by f r ≡ ..` names one outcome: where f can be taken back, the outcome can be read back from its answer,
-- since a refusal is the answer's own. So two outcomes with the same answer are the same.
use mathlib.Core.Path.{◌≡◌, refl, sym, ap, ◌∙◌}
use Rattle.std.specs.Prelude.{Result, Ok, Err, IsErrAnd}
use Rattle.refusal.specs.Answer.{Refusal, Answer, accepted, refused, answer_by, answer_of}

module _ {X A : Type 0} (f : X → A) (back : A → X) (is_back : (x : X) → back (f x) ≡ x) where
  abbrev outcome : Answer A → Result X Refusal
  outcome (accepted a) = Ok (back a)
  outcome (refused why) = Err why

  outcome_is : (r : Result X Refusal) → outcome (answer_by f r) ≡ r
  outcome_is (Ok x) = ap (λ (y : X). Ok y) (is_back x)
  outcome_is (Err why) = refl

  pub answer_by_injective : (r r' : Result X Refusal) → answer_by f r ≡ answer_by f r' → r ≡ r'
  answer_by_injective r r' e = sym (outcome_is r) ∙ ap outcome e ∙ outcome_is r'

pub answer_of_injective : {A : Type 0} (r r' : Result A Refusal) → answer_of r ≡ answer_of r' → r ≡ r'
answer_of_injective r r' e = answer_by_injective (λ x. x) (λ x. x) (λ x. refl) r r' e

-- where a `?` hands on an error, the answer is its refusal
pub handed_on : {X A : Type 0} {why : Refusal} (f : X → A) (r : Result X Refusal) → IsErrAnd r (λ e. e ≡ why) → answer_by f r ≡ refused why
handed_on f (Ok x) none = absurd none
handed_on f (Err e) is = ap refused is
