-- `tandrekily_next` meets its contract: it lays out what `reader::next` finds, and answers the place.
use mathlib.Core.Path.{ap}
use Rattle.steps.specs.declared.Stepped.{Stepped}
use Rattle.tandrekily.proofs.tandrekily_next.Goals as goal

pub returns : goal.returns
returns c =
    let e = c.next-s.ensures in
    record { place = ap (λ (s : Stepped). s.place) e; res = rw (c.answer.ensures, e) at c.of_found.ensures }
