-- `tandrekily_avp` meets its contract: in the reading that is asked for, it lays out what `avp_alone::parse_avp` answers, which fills the store.
use Rattle.tandrekily.proofs.tandrekily_avp.Goals as goal

pub returns : goal.returns
returns c =
    let reading = c.reading_of.ensures in
    let e = c.parse_avp.ensures in
    let answer = rw reading at e.answer in
    record { res = rw answer at c.of_avp.ensures; store = rw answer at rw reading at e.store }
