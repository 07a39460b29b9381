-- An outcome of `diameter::parse` whose answer is an acceptance holds a message, whose counts are the definition's.
use mathlib.Core.Path.{◌≡◌, refl, ap}
use Rattle.std.specs.Prelude.{Ok, Err}
use Rattle.promises.proofs.Outcomes.{Decoded}
use Rattle.refusal.specs.Answer.{accepted}
use Rattle.rfc6733.specs.Decoder as definition
use Rattle.refusal.proofs.Answers.{not_accepted}
use Rattle.diameter.specs.declared.Message.{Message}
use Rattle.diameter.specs.Answers.{answer_of, message_as}

pub record AcceptedAs (r : Decoded) (x : definition.Message) : Type 0 where
  pub message : Message
  pub is_accepted : r ≡ Ok message
  pub tried_is : message.tried ≡ x.counts.tried
  pub length_is : message.length ≡ x.counts.length

pub accepted_as : (r : Decoded) (x : definition.Message) → answer_of r ≡ accepted x → AcceptedAs r x
unfolding message_as
accepted_as (Ok m) x e =
    let same : message_as m ≡ x = cc in
    record {
      message = m;
      is_accepted = refl;
      tried_is = ap (λ (y : definition.Message). y.counts.tried) same;
      length_is = ap (λ (y : definition.Message). y.counts.length) same;
    }
accepted_as (Err why) x e = absurd (not_accepted e)
