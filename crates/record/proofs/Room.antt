-- What is put where there is room for a record.
use Rattle.std.proofs.Common.{◌≡◌, ℕ, ◌≤◌, List, length}
use Rattle.octets.specs.Octets.{octets, over}
use Rattle.octets.proofs.Lists.{all_put}
use Rattle.record.specs.Record.{Record, record_size, record_bytes}
use Rattle.record.specs.Store.{put}

pub put_with_room : (r : Record) (s : List ℕ) → record_size ≤ length s → put r s ≡ over (record_bytes r) s
unfolding record_bytes octets
put_with_room r s room = all_put (record_bytes r) s room
