-- The editions of the code as dictionaries, by their numbers.
use Rattle.std.specs.Prelude.{ℕ, cond, List, eqb, Option, Some, None}
use Rattle.refusal.specs.declared.Refusal.{Refusal}
use Rattle.refusal.specs.declared.Refusal.TheVariants.{BadDepth, BadEdition}
use Rattle.rfc6733.specs.Dictionary.{Dictionary}
use Rattle.rfc6733.specs.Decoder.{allowed}
use Rattle.rfc6733.specs.CreditControl.{rfc4006, rfc8506}
use Rattle.record.specs.Rows.{table}
use Rattle.editions.specs.declared.Edition.{Edition}
use Rattle.editions.specs.declared.Edition.TheVariants.{Rfc4006, Rfc8506}

unfoldable pub dictionary : Edition → Dictionary
dictionary Rfc4006 = rfc4006
dictionary Rfc8506 = rfc8506

-- the edition of a number
unfoldable pub chosen : ℕ → Option Edition
chosen n = cond (eqb n 4006) (Some Rfc4006) (cond (eqb n 8506) (Some Rfc8506) None)

-- the kinds of the codes 0 to 669, where no vendor counts
unfoldable pub kind_table : Edition → List ℕ
kind_table e = table (λ c. (dictionary e).kind c 0) 670

-- how a number that is no edition is refused: for the limit, or else as BadEdition
abbrev pub no_edition : ℕ → Refusal
no_edition limit = cond (allowed limit) BadEdition BadDepth
