-- Each field is put right behind the one before, so the nine are put as one.
use Rattle.std.proofs.Common.{◌≡◌, ◌++◌, ◌*◌, ◌%◌, arith, rules}
use Rattle.std.proofs.Math.ListN.{set}
use borrow.Rule.Slice.PartMut.{put_mid}
use Rattle.octets.specs.Octets.{octets}
use Rattle.word.proofs.Part.{number_replaced, two_replaced, byte_replaced}
use Rattle.record.proofs.Record.put_data.Goals as goal

pub returns : goal.returns
unfolding octets
returns c =
    let r = c.args.self in
    let s = c.args.store.now in
    let s1 = put_mid 12 4 s c.put_u32.new.out in
    let s2 = set s1 16 r.depth in
    let s3 = set s2 17 r.kind in
    let s4 = set s3 18 r.errors in
    let s5 = set s4 19 r.padding in
    let s6 = put_mid 20 4 s5 c.put_u32-2.new.out in
    let s7 = put_mid 24 8 s6 c.put_u64.new.out in
    let place = number_replaced s 12 _ 4 r.place c.put_u32.ensures (omega arith) in
    let depth = byte_replaced r.depth s1 16 (omega arith) in
    let kind = byte_replaced r.kind s2 17 (omega arith) in
    let errors = byte_replaced r.errors s3 18 (omega arith) in
    let padding = byte_replaced r.padding s4 19 (omega arith) in
    let zero_behind : octets 4 (r.pads % 0x1000000 * 0x100) ≡ octets 3 r.pads ++ octets 1 0 = search rules in
    let pads = two_replaced s5 20 _ 3 1 r.pads 0 (rw zero_behind at c.put_u32-2.ensures) (omega arith) in
    let value = number_replaced s6 24 _ 8 r.value c.put_u64.ensures (omega arith) in
    let parent = number_replaced s7 32 _ 4 r.parent c.put_u32-3.ensures (omega arith) in
    rw (parent.is, value.is, pads.is, padding.is, errors.is, kind.is, depth.is, place.is)
