-- Joining two messages of which one is refused, or that have no room together, of `diameter::parse` and `parse_by`
-- themselves. Where both tile, the message that holds the AVPs of both is TooDeep if either is; and where both are
-- accepted, it is NoRecords with the records of both if the store has room for fewer. Over
-- rfc6733/proofs/JoinedMessages.
use Prim.Native.Nat.{ℕ, ◌+◌, ◌<◌}
use mathlib.Core.Path.{◌≡◌, refl, sym, ap, ap₂, ◌∙◌}
use mathlib.Core.Bool.{false}
use mathlib.Core.Logic.{inl, inr}
use mathlib.Core.List.{◌++◌}
use native.Mathlib.Omega.{arith}
use Rattle.std.specs.Prelude.{Ok, Err}
use Rattle.promises.proofs.Outcomes.{Decoded}
use Rattle.octets.specs.Run.{tree, deepest}
use Rattle.refusal.specs.Answer.{Refusal, refused}
use Rattle.refusal.specs.declared.Refusal.TheVariants.{TooDeep, NoRecords}
use Rattle.refusal.proofs.Answers.{among}
use Rattle.record.specs.Store.{room}
use Rattle.rfc6733.specs.Dictionary.{Dictionary}
use Rattle.rfc6733.specs.Decoder.{limit_refusals, decoded, message_body}
use Rattle.rfc6733.specs.Editions.{edition_refusals}
use Rattle.rfc6733.specs.Records.{avps}
use Rattle.rfc6733.proofs.Editions.{refused_by}
use Rattle.rfc6733.proofs.JoinedMessages.{Tiled, when_no_room, when_too_deep, is_too_deep, has_no_room}
use Rattle.diameter.specs.declared.Message.{Message}
use Rattle.diameter.proofs.AnswerOf.{answer_of_injective}
use Rattle.promises.proofs.Ways.{Way, reading, edition, dictionary_of, Known, Call, decodes, refuses}
use Rattle.promises.proofs.Tables.{told}
use Rattle.promises.proofs.Joining.{AsksBoth}

-- a message that tiles is accepted, or refused for its depth or for want of room
pub data Tiles : Decoded → Type 0 where
  accepts : (m : Message) → Tiles (Ok m)
  too_deep : Tiles (Err TooDeep)
  no_records : (n : ℕ) → Tiles (Err (NoRecords n))

-- one of two is too deep, and the other tiles
pub data OneTooDeep : Decoded → Decoded → Type 0 where
  first_is : (r : Decoded) → Tiles r → OneTooDeep (Err TooDeep) r
  second_is : (r : Decoded) → Tiles r → OneTooDeep r (Err TooDeep)

-- ---- the proofs

-- where an edition was asked, it is one
known_too_deep : (way : Way) (limit : ℕ) → Call way limit (Err TooDeep) → Known way
known_too_deep (reading r) limit c = tt
known_too_deep (edition n) limit c = refused_by n limit _ c.input.now TooDeep refl (sym c.answered.0)

module _ (way : Way) (limit : ℕ) where
  abbrev D : Dictionary
  D = dictionary_of way

  -- a refusal that is neither the limit's nor the edition's
  refused_so : (why : Refusal) → ((n : ℕ) → among why (limit_refusals limit ++ edition_refusals n) ≡ false)
      → (c : Call way limit (Err why))
      → decoded D limit (room c.store.now) c.input.now ≡ refused why
  refused_so why later c =
      sym (refuses way c.lifetimes limit c.input c.store why c.store' later c.answered).answer_is

  deep_so : (c : Call way limit (Err TooDeep))
      → Tiled D limit c.input.now × (limit < deepest (tree (avps D) (message_body c.input.now)))
  deep_so c = when_too_deep D limit _ c.input.now (refused_so TooDeep (λ n. refl) c)

  tiled_so : (r : Decoded) (c : Call way limit r) → Tiles r → Tiled D limit c.input.now
  tiled_so r c (accepts m) = (told way limit m c).tiled
  tiled_so r c too_deep = (deep_so c).0
  tiled_so r c (no_records n) = when_no_room D limit _ c.input.now n (refused_so (NoRecords n) (λ k. refl) c)

  -- what the definition refuses, the call does
  refuses_so : (r : Decoded) (c : Call way limit r) (why : Refusal) → Known way
      → decoded D limit (room c.store.now) c.input.now ≡ refused why → r ≡ Err why
  refuses_so r c why known e =
      let says = decodes way c.lifetimes limit c.input c.store r c.store' known c.answered in
      answer_of_injective r (Err why) (says.answer_is ∙ e)

-- ---- what is promised

pub too_deep_joined : (way : Way) (limit : ℕ) (r₁ r₂ r : Decoded)
    (first : Call way limit r₁) (second : Call way limit r₂) (both : Call way limit r)
    → AsksBoth first second both → OneTooDeep r₁ r₂ → r ≡ Err TooDeep
too_deep_joined way limit r₁ r₂ r first second both asks (first_is x t) =
    let a = deep_so way limit first in
    refuses_so way limit r both TooDeep (known_too_deep way limit first)
    (is_too_deep (dictionary_of way) limit _ _ _ a.0 (tiled_so way limit x second t) asks _ (inl a.1))
too_deep_joined way limit r₁ r₂ r first second both asks (second_is x t) =
    let b = deep_so way limit second in
    refuses_so way limit r both TooDeep (known_too_deep way limit second)
    (is_too_deep (dictionary_of way) limit _ _ _ (tiled_so way limit x first t) b.0 asks _ (inr b.1))

pub no_room_joined : (way : Way) (limit : ℕ) (m n : Message) (r : Decoded)
    (first : Call way limit (Ok m)) (second : Call way limit (Ok n)) (both : Call way limit r)
    → AsksBoth first second both → room both.store.now < m.records + n.records
    → r ≡ Err (NoRecords (m.records + n.records))
no_room_joined way limit m n r first second both asks few =
    let a = told way limit m first in
    let b = told way limit n second in
    let counts = ap₂ ◌+◌ a.left_is.records_counted b.left_is.records_counted in
    refuses_so way limit r both _ a.known
    (has_no_room (dictionary_of way) limit _ _ _ a.tiled b.tiled asks _ a.shallow b.shallow
    (omega (arith, a.left_is.records_counted, b.left_is.records_counted))
    ∙ ap (λ (k : ℕ). refused (NoRecords k)) counts)
