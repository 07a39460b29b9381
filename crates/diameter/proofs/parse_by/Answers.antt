-- `parse_by` meets its contract: a number that is no edition is refused as the definition says. The table of one that is chosen, with what
-- the RFC reading has beside it, is the dictionary of its number.
use mathlib.Core.Path.{refl, sym, ap, ◌∙◌}
use Rattle.refusal.specs.Answer.{refused}
use Rattle.record.specs.Store.{stored}
use Rattle.rfc6733.proofs.Editions.{message_by, message_by_none}
use Rattle.editions.proofs.Dictionaries.{chosen_none, number_by_table}
use Rattle.diameter.proofs.parse_by.Goals as goal

pub returns-in_default : goal.returns-in_default
unfolding stored
returns-in_default c =
    let none = chosen_none _ (sym c.by_number.ensures ∙ c.in_default.is) in
    record { answer = ap refused c.no_edition.ensures ∙ message_by_none _ _ _ _ none; store = refl }

pub returns : goal.returns
returns c =
    let is = sym c.by_number.ensures ∙ c.in-Some.is in
    let known = number_by_table _ _ _ is c.dictionary.ensures c.kind_table-kinds.ensures in
    record { answer = (rw known.1 at c.parse_in.ensures.answer) ∙ message_by _ _ _ _ known.0; store = rw known.1 at c.parse_in.ensures.store }
