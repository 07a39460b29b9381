-- Decoding by an edition of the credit-control dictionary, a number (docs/FORMAT.md, 7.9): a number that is no edition is refused after
-- the limit, and before anything is read.
use Rattle.std.specs.Prelude.{ℕ, not, List, [], ◌∷◌, ◌++◌}
use Rattle.refusal.specs.Answer.{Answer, Test, refuse, answer}
use Rattle.refusal.specs.declared.Refusal.TheVariants.{BadEdition}
use Rattle.rfc6733.specs.CreditControl.{is_edition, edition_of}
use Rattle.rfc6733.specs.Decoder.{Message, limit_refusals, bytes_refusals, message_of, alone_bytes_refusals, alone_of}
use Rattle.record.specs.Counts.{Counts}

abbrev pub edition_refusals : ℕ → List Test
edition_refusals n = refuse (not (is_edition n)) BadEdition ∷ []

-- a message, by the edition, the depth limit, how many records there is room for, and the input
unfoldable pub decoded_by : ℕ → ℕ → ℕ → List ℕ → Answer Message
decoded_by n limit room s =
    answer (limit_refusals limit ++ (edition_refusals n ++ bytes_refusals (edition_of n) limit room s)) (message_of (edition_of n) s)

-- one AVP alone
unfoldable pub avp_alone_by : ℕ → ℕ → ℕ → List ℕ → Answer Counts
avp_alone_by n limit room s =
    answer (limit_refusals limit ++ (edition_refusals n ++ alone_bytes_refusals (edition_of n) limit room s)) (alone_of (edition_of n) s)
