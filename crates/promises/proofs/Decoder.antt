-- Demand 3 of `diameter::parse` and `parse_by` themselves: six times the headers tried is at most the length less 20, and there are messages
-- of every such length at which it is just that. The contracts say that the answer is the definition's, of which both are laws
-- (rfc6733/proofs/Demand3).
use Prim.Native.Nat.{ℕ, ◌+◌, ◌-◌, ◌*◌, ◌≤◌}
use mathlib.Core.Path.{◌≡◌, sym, ap, ◌∙◌}
use native.Mathlib.Omega.{arith}
use lib.ListN.{length}
use contract.Lifetimes.{Lfts}
use Rattle.std.specs.Prelude.{Ok}
use Rattle.promises.proofs.Outcomes.{Decoded}
use Rattle.record.specs.Store.{capacity}
use Rattle.rfc6733.specs.Decoder.{message_of, decoded}
use Rattle.rfc6733.specs.Writer.{most24}
use Rattle.rfc6733.specs.Extremal.{extremal}
use Rattle.rfc6733.proofs.Demand3.{Reaches, headers_tried, best_sawp, best_rfc, best_edition}
use Rattle.attribute.specs.declared.Reading.TheVariants.{Sawp, Rfc}
use Rattle.attribute.specs.Attributes.{dictionary}
use Rattle.diameter.specs.declared.Message.{Message}
use Rattle.diameter.specs.Answers.{message_as}
use Rattle.promises.proofs.OneOutcome.Calls.{Slice, MutSlice}
use Rattle.promises.proofs.Ways.{Way, reading, edition, dictionary_of, Known, Decode, decodes, accepts}
use Rattle.promises.proofs.Acceptance.{accepted_as}

pub tried_of_the_decoder : (way : Way) (κs : Lfts 2) (limit : ℕ) (input : Slice) (store : MutSlice) (m : Message) (store' : MutSlice)
    → Decode way κs limit input store (Ok m) store' → 6 * m.tried ≤ m.length - 20
unfolding message_as
tried_of_the_decoder way κs limit input store m store' p =
    headers_tried _ _ _ _ (message_as m) (sym (accepts way κs limit input store m store' p).answer_is)

-- ---- the bound is reached

reaches : (way : Way) (limit room k : ℕ) → 2 ≤ limit → limit ≤ 64 → k ≤ room → 20 + 12 * k ≤ most24 → Reaches (dictionary_of way) limit room k
unfolding dictionary
reaches (reading Sawp) = best_sawp
reaches (reading Rfc) = best_rfc
reaches (edition n) = λ limit room k low high fits short. best_edition limit room k low high fits short n

-- r is an acceptance that reaches the bound with 20 + 12k bytes
pub record AtTheBound (k : ℕ) (r : Decoded) : Type 0 where
  pub message : Message
  pub is_accepted : r ≡ Ok message
  pub length_is : message.length ≡ 20 + 12 * k
  pub tried_is : 6 * message.tried ≡ message.length - 20

pub bound_is_reached : (way : Way) (κs : Lfts 2) (limit k : ℕ) (input : Slice) (store : MutSlice) (r : Decoded) (store' : MutSlice)
    → Known way → Decode way κs limit input store r store' → input.now ≡ extremal k
    → 2 ≤ limit → limit ≤ 64 → k ≤ capacity (length store.now) → 20 + 12 * k ≤ most24
    → AtTheBound k r
bound_is_reached way κs limit k input store r store' known p same low high fits short =
    let D = dictionary_of way in
    let room = capacity (length store.now) in
    let b = reaches way limit room k low high fits short in
    let says = (decodes way κs limit input store r store' known p).answer_is in
    let a = accepted_as r (message_of D (extremal k)) (says ∙ ap (decoded D limit room) same ∙ b.is_accepted) in
    record {
      message = a.message;
      is_accepted = a.is_accepted;
      length_is = a.length_is ∙ b.length_is;
      tried_is = omega (arith, a.tried_is, a.length_is, b.tried_is, b.length_is);
    }
