-- `tandrekily_message_by` meets its contract: it lays out what `diameter::parse_by` answers, which fills the store.
use Rattle.tandrekily.proofs.tandrekily_message_by.Goals as goal

pub returns : goal.returns
returns c =
    let e = c.parse_by.ensures in
    record { res = rw e.answer at c.of_message.ensures; store = rw e.answer at e.store }
