-- Each field is put right behind the one before, so the four are put as one.
use Rattle.std.proofs.Common.{arith}
use borrow.Rule.Slice.PartMut.{put_mid}
use Rattle.octets.specs.Octets.{octets}
use Rattle.word.proofs.Part.{number_replaced, two_replaced}
use Rattle.record.proofs.Record.put_header.Goals as goal

pub returns : goal.returns
unfolding octets
returns c =
    let r = c.args.self in
    let s = c.args.store.now in
    let s1 = put_mid 0 4 s c.put_u32.new.out in
    let s2 = put_mid 4 4 s1 c.put_u8_u24.new.out in
    let code = number_replaced s 0 _ 4 r.code c.put_u32.ensures (omega arith) in
    let flags = two_replaced s1 4 _ 1 3 r.flags r.length c.put_u8_u24.ensures (omega arith) in
    let vendor = number_replaced s2 8 _ 4 r.vendor c.put_u32-2.ensures (omega arith) in
    rw (vendor.is, flags.is, code.is)
