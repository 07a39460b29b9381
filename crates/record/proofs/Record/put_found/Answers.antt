-- Where there is room, the three are put one after the other.
use Rattle.std.proofs.Common.{length, arith}
use Rattle.std.proofs.Math.ListN.{set}
use borrow.Author.Tests.{le-leb}
use Rattle.octets.specs.Octets.{octets}
use Rattle.word.proofs.Part.{number_replaced, byte_replaced}
use Rattle.record.specs.Record.{record_size}
use Rattle.record.specs.Store.{put_found}
use Rattle.record.proofs.Record.put_found.Goals as goal

pub returns : goal.returns
unfolding put_found octets
returns c =
    let a = c.args in
    let s = a.store.now in
    let s1 = set s 17 a.kind in
    let s2 = set s1 18 a.errors in
    let kind = byte_replaced a.kind s 17 (omega arith) in
    let errors = byte_replaced a.errors s1 18 (omega arith) in
    let value = number_replaced s2 24 _ 8 a.value c.put_u64.ensures (omega arith) in
    rw (value.is, errors.is, kind.is, le-leb record_size (length s) (omega arith))
