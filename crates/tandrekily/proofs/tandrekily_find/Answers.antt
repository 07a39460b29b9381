-- `tandrekily_find` meets its contract: it lays out what `reader::find` answers.
use mathlib.Core.Path.{ap, ◌∙◌}
use Rattle.results.specs.Results.{found_result}
use Rattle.tandrekily.proofs.tandrekily_find.Goals as goal

pub returns : goal.returns
returns c = c.of_found.ensures ∙ ap found_result c.find.ensures
