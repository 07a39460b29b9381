-- Where there is room, the header's fields and the others behind them are put, which are the whole record.
use Rattle.std.proofs.Common.{arith}
use Rattle.octets.specs.Octets.{octets}
use Rattle.octets.proofs.Lists.{all_bytes_put}
use Rattle.record.specs.Record.{record_bytes}
use Rattle.record.proofs.Record.put.Goals as goal

pub returns-clause-store : goal.returns-clause-store
unfolding record_bytes octets
returns-clause-store c =
    rw (c.put_data.ensures, c.put_header.ensures) (all_bytes_put (record_bytes c.args.self) c.args.store.now (omega arith))
