-- `tandrekily_avp_by` meets its contract: it lays out what `avp_alone::parse_avp_by` answers, which fills the store.
use Rattle.tandrekily.proofs.tandrekily_avp_by.Goals as goal

pub returns : goal.returns
returns c =
    let e = c.parse_avp_by.ensures in
    record { res = rw e.answer at c.of_avp.ensures; store = rw e.answer at e.store }
