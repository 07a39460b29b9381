-- By which numbers a decoding refuses: none of its tests has a greater one.
use Prim.Native.Nat.{ℕ, ◌≤◌}
use mathlib.Core.Path.{◌≡◌, refl}
use mathlib.Core.List.{List, ◌++◌}
use Rattle.refusal.specs.Answer.{Refusal, refused}
use Rattle.refusal.specs.Refusals.{number_of}
use Rattle.refusal.proofs.Answers.{number_within}
use Rattle.rfc6733.specs.Header.{header_refusals}
use Rattle.rfc6733.specs.Avp.{avp_refusals}
use Rattle.rfc6733.specs.Dictionary.{Dictionary}
use Rattle.rfc6733.specs.CreditControl.{edition_of}
use Rattle.rfc6733.specs.Decoder.{limit_refusals, bytes_refusals, message_refusals, message_of, decoded, alone_bytes_refusals, alone_refusals, alone_of, avp_alone}
use Rattle.rfc6733.specs.Editions.{edition_refusals, decoded_by, avp_alone_by}

-- by a dictionary, as in a reading: 1 to 7
module _ (D : Dictionary) (limit room : ℕ) (s : List ℕ) (why : Refusal) where
  pub message_numbers : decoded D limit room s ≡ refused why → number_of why ≤ 7
  unfolding decoded message_refusals header_refusals
  message_numbers = number_within 7 (message_refusals D limit room s) (message_of D s) why refl

  pub alone_numbers : avp_alone D limit room s ≡ refused why → number_of why ≤ 7
  unfolding avp_alone alone_refusals avp_refusals
  alone_numbers = number_within 7 (alone_refusals D limit room s) (alone_of D s) why refl

-- by an edition: these and 12
module _ (n limit room : ℕ) (s : List ℕ) (why : Refusal) where
  pub message_by_numbers : decoded_by n limit room s ≡ refused why → number_of why ≤ 12
  unfolding decoded_by header_refusals
  message_by_numbers =
      number_within 12 (limit_refusals limit ++ (edition_refusals n ++ bytes_refusals (edition_of n) limit room s)) (message_of (edition_of n) s) why refl

  pub alone_by_numbers : avp_alone_by n limit room s ≡ refused why → number_of why ≤ 12
  unfolding avp_alone_by avp_refusals
  alone_by_numbers =
      number_within 12 (limit_refusals limit ++ (edition_refusals n ++ alone_bytes_refusals (edition_of n) limit room s)) (alone_of (edition_of n) s) why refl
