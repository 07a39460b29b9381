-- Where there is a record, the place and the parent are put one after the other.
use Rattle.std.proofs.Common.{length, arith}
use borrow.Author.Tests.{le-leb}
use borrow.Rule.Slice.PartMut.{put_mid}
use Rattle.octets.specs.Octets.{octets}
use Rattle.word.proofs.Part.{number_replaced}
use Rattle.record.specs.Record.{record_size}
use Rattle.record.specs.Store.{put_place_and_parent}
use Rattle.record.proofs.Record.put_place_and_parent.Goals as goal

pub returns : goal.returns
unfolding put_place_and_parent octets
returns c =
    let a = c.args in
    let s = a.table.now in
    let s1 = put_mid 12 4 s c.put_u32.new.out in
    let place = number_replaced s 12 _ 4 a.place c.put_u32.ensures (omega arith) in
    let parent = number_replaced s1 32 _ 4 a.parent c.put_u32-2.ensures (omega arith) in
    rw (parent.is, place.is, le-leb record_size (length s) (omega arith))
