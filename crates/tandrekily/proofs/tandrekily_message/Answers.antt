-- `tandrekily_message` meets its contract: in the reading that is asked for, it lays out what `diameter::parse` answers, which fills the store.
use Rattle.tandrekily.proofs.tandrekily_message.Goals as goal

pub returns : goal.returns
returns c =
    let reading = c.reading_of.ensures in
    let e = c.parse.ensures in
    let answer = rw reading at e.answer in
    record { res = rw answer at c.of_message.ensures; store = rw answer at rw reading at e.store }
