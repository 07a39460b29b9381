-- Decoding by an edition is decoding by its dictionary, where the number is an edition: its test is then passed, and the others are the
-- same. BadEdition is the refusal of that one test, so it is given where the limit is allowed and the number is no edition, and only there.
use Prim.Native.Nat.{ℕ}
use mathlib.Core.Path.{◌≡◌, refl, sym}
use mathlib.Core.Bool.{Bool, true, false, not, cond, ◌&&◌}
use mathlib.Core.Logic.{inl, inr}
use mathlib.Core.List.{List, ◌++◌}
use Rattle.refusal.specs.Answer.{Refusal, accepted, refused, Test, answer}
use Rattle.refusal.specs.declared.Refusal.TheVariants.{BadDepth, BadEdition}
use Rattle.refusal.proofs.Answers.{and-true, kept_not, not_accepted, among, answer_later, not_among}
use Rattle.refusal.proofs.Tests.{decide}
use Rattle.rfc6733.specs.Header.{header_refusals}
use Rattle.rfc6733.specs.Avp.{avp_refusals}
use Rattle.rfc6733.specs.CreditControl.{is_edition, edition_of}
use Rattle.rfc6733.specs.Decoder.{Message, allowed, limit_refusals, bytes_refusals, message_refusals, message_of, decoded, alone_bytes_refusals, alone_refusals, alone_of, avp_alone}
use Rattle.record.specs.Counts.{Counts}
use Rattle.rfc6733.specs.Editions.{edition_refusals, decoded_by, avp_alone_by}

-- ---- the test of the edition, whatever is refused after it

module _ {A : Type 0} (n limit : ℕ) (rs : List Test) (x : A) where
  known : is_edition n ≡ true → answer (limit_refusals limit ++ (edition_refusals n ++ rs)) x ≡ answer (limit_refusals limit ++ rs) x
  known e = rw e

  unknown : is_edition n ≡ false → refused (cond (allowed limit) BadEdition BadDepth) ≡ answer (limit_refusals limit ++ (edition_refusals n ++ rs)) x
  unknown e = elim (decide (allowed limit)) [ inl ok ↦ rw (ok, e) | inr bad ↦ rw bad ]

  only_known : (y : A) → answer (limit_refusals limit ++ (edition_refusals n ++ rs)) x ≡ accepted y → is_edition n ≡ true
  only_known y = by (allowed limit) (is_edition n)
    where
      by : (a b : Bool) → cond (not a) (refused BadDepth) (cond (not b) (refused BadEdition) (answer rs x)) ≡ accepted y → b ≡ true
      by true true e = refl
      by true false e = absurd (not_accepted e)
      by false b e = absurd (not_accepted e)

  only_unknown : among BadEdition rs ≡ false → answer (limit_refusals limit ++ (edition_refusals n ++ rs)) x ≡ refused BadEdition
      → (allowed limit ≡ true) × (is_edition n ≡ false)
  only_unknown later e =
      let past = answer_later (limit_refusals limit) (edition_refusals n ++ rs) x BadEdition refl e in
      let ok = kept_not (allowed limit) (and-true (not (not (allowed limit))) true past.0).0 in
      elim (decide (is_edition n)) [
        | inl e ↦ absurd (not_among rs x BadEdition later (rw e at past.1))
        | inr e ↦ (ok, e)
      ]

-- ---- a message

module _ (n limit room : ℕ) (s : List ℕ) where
  abbrev message_rest : List Test
  message_rest = bytes_refusals (edition_of n) limit room s

  pub message_by : is_edition n ≡ true → decoded (edition_of n) limit room s ≡ decoded_by n limit room s
  unfolding decoded_by decoded message_refusals
  message_by e = sym (known n limit message_rest (message_of (edition_of n) s) e)

  pub message_by_none : is_edition n ≡ false → refused (cond (allowed limit) BadEdition BadDepth) ≡ decoded_by n limit room s
  unfolding decoded_by
  message_by_none = unknown n limit message_rest (message_of (edition_of n) s)

  -- only an edition accepts
  pub accepted_by : (m : Message) → decoded_by n limit room s ≡ accepted m → is_edition n ≡ true
  unfolding decoded_by
  accepted_by = only_known n limit message_rest (message_of (edition_of n) s)

  -- and only an edition refuses for the bytes
  pub refused_by : (why : Refusal) → among why (limit_refusals limit ++ edition_refusals n) ≡ false → decoded_by n limit room s ≡ refused why
      → is_edition n ≡ true
  unfolding decoded_by
  refused_by why later e =
      let past = (answer_later (limit_refusals limit ++ edition_refusals n) message_rest (message_of (edition_of n) s) why later e).0 in
      let edition = (and-true (not (not (allowed limit))) (not (not (is_edition n)) && true) past).1 in
      kept_not (is_edition n) (and-true (not (not (is_edition n))) true edition).0

  pub message_bad_edition : decoded_by n limit room s ≡ refused BadEdition → (allowed limit ≡ true) × (is_edition n ≡ false)
  unfolding decoded_by header_refusals
  message_bad_edition = only_unknown n limit message_rest (message_of (edition_of n) s) refl

-- ---- one AVP alone

module _ (n limit room : ℕ) (s : List ℕ) where
  abbrev alone_rest : List Test
  alone_rest = alone_bytes_refusals (edition_of n) limit room s

  pub alone_by : is_edition n ≡ true → avp_alone (edition_of n) limit room s ≡ avp_alone_by n limit room s
  unfolding avp_alone_by avp_alone alone_refusals
  alone_by e = sym (known n limit alone_rest (alone_of (edition_of n) s) e)

  pub alone_by_none : is_edition n ≡ false → refused (cond (allowed limit) BadEdition BadDepth) ≡ avp_alone_by n limit room s
  unfolding avp_alone_by
  alone_by_none = unknown n limit alone_rest (alone_of (edition_of n) s)

  -- only an edition accepts
  pub alone_accepted_by : (c : Counts) → avp_alone_by n limit room s ≡ accepted c → is_edition n ≡ true
  unfolding avp_alone_by
  alone_accepted_by = only_known n limit alone_rest (alone_of (edition_of n) s)

  pub alone_bad_edition : avp_alone_by n limit room s ≡ refused BadEdition → (allowed limit ≡ true) × (is_edition n ≡ false)
  unfolding avp_alone_by avp_refusals
  alone_bad_edition = only_unknown n limit alone_rest (alone_of (edition_of n) s) refl
