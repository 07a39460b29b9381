-- `order_to` meets its contract. The loop's invariant: each turn has taken ten once more.
use Rattle.std.proofs.Common.{◌≡◌, ◌*◌, ◌^◌}
use Rattle.unit_value.proofs.order_to.Given as goal

abbrev pub invariant-loop : goal.invariant-loop
invariant-loop l = l.m ≡ l.fn.m * 10 ^ l.counter
