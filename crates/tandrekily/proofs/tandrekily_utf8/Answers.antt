-- `tandrekily_utf8` meets its contract: a text that is well-formed is its own longest prefix, and of another the check says how long that is.
use mathlib.Core.Path.{sym}
use Rattle.std.specs.Prelude.{Ok, Err}
use Rattle.rfc3629.proofs.Prefixes.{reaches_end}
use Rattle.utf8.proofs.Answers.{says}
use Rattle.tandrekily.proofs.tandrekily_utf8.Goals as goal

pub returns-in-Ok : goal.returns-in-Ok
returns-in-Ok c = sym (reaches_end _ (says _ (Ok _) c.in-Ok.ensures))

pub returns-in-Err : goal.returns-in-Err
returns-in-Err c = sym (says _ (Err _) c.in-Err.ensures).up_to
