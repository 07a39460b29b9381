-- `tandrekily_header` meets its contract: it lays out what `Header::parse` answers.
use mathlib.Core.Path.{ap, ◌∙◌}
use Rattle.results.specs.Results.{message_result}
use Rattle.tandrekily.proofs.tandrekily_header.Goals as goal

pub returns : goal.returns
returns c = c.of_header.ensures ∙ ap message_result c.parse.ensures
