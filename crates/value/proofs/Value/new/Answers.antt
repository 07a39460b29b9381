-- `Value::new` meets its contract: it knows of no group that it tiles, so that each is asked.
use Rattle.value.specs.Values.{new_value}
use Rattle.value.proofs.Value.new.Goals as goal

pub returns : goal.returns
unfolding new_value
returns c = c.new_known.ensures
