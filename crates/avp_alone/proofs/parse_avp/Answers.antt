-- `parse_avp` meets its contract: the table that it makes, with what is beside it, is the reading's dictionary.
use Rattle.attribute.proofs.Dictionaries.{dictionary_by_table}
use Rattle.avp_alone.proofs.parse_avp.Goals as goal

pub returns : goal.returns
returns c =
    rw (dictionary_by_table _ _ c.dictionary.ensures c.kind_table-kinds.ensures) at c.parse_avp_in.ensures
