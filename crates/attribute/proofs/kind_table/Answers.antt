-- `kind_table` meets its contract: KINDS is the table of the sawp reading, computed entry by entry, and with three
-- entries replaced it is that of the RFC reading.
use Rattle.rfc6733.specs.Dictionary.{sawp, rfc}
use Rattle.attribute.specs.Attributes.{dictionary, kind_table}
use Rattle.attribute.proofs.kind_table.Goals as goal

pub returns-in-Sawp : goal.returns-in-Sawp
unfolding kind_table dictionary sawp
returns-in-Sawp c = rw c.in-Sawp.is

pub returns-in-Rfc : goal.returns-in-Rfc
unfolding kind_table dictionary rfc
returns-in-Rfc c = rw c.in-Rfc.is
