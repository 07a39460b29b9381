-- `put_head` meets its contract: each field is put right behind the one before, so the three, or the four with a vendor, are put as one.
use Prim.Native.Nat.{◌≤◌}
use mathlib.Core.Path.{sym, ◌∙◌}
use native.Mathlib.Omega.{arith}
use lib.ListN.{length}
use borrow.Rule.Slice.PartMut.{put_mid}
use Rattle.round_trip.proofs.Lengths.{head_low}
use Rattle.word.proofs.Part.{number_replaced, two_replaced}
use Rattle.heads.proofs.Fronts.{no_head_put, head_put, vendor_put, with_vendor}
use Rattle.heads.proofs.put_head.Goals as goal

pub returns-then-out-header_size : goal.returns-then-out-header_size
returns-then-out-header_size c = no_head_put c.args.r _ _ (omega (arith, c.header_size.ensures))

pub returns-else-vendor_specific_flag : goal.returns-else-vendor_specific_flag
returns-else-vendor_specific_flag c =
    let r = c.args.r in
    let s = c.args.out.now in
    let s1 = put_mid 0 4 s c.put_u32.new.out in
    let none = sym c.vendor_specific_flag.ensures ∙ c.if-vendor_specific_flag.false in
    let room : 8 ≤ length s = omega (arith, c.header_size.ensures, head_low r) in
    let code = number_replaced s 0 _ 4 r.code c.put_u32.ensures (omega arith) in
    let flags = two_replaced s1 4 _ 1 3 r.flags c.args.n c.put_u8_u24.ensures (omega arith) in
    rw (flags.is, code.is) (head_put r c.args.n s none room)

pub returns-then-vendor_specific_flag : goal.returns-then-vendor_specific_flag
returns-then-vendor_specific_flag c =
    let r = c.args.r in
    let s = c.args.out.now in
    let s1 = put_mid 0 4 s c.put_u32.new.out in
    let s2 = put_mid 4 4 s1 c.put_u8_u24.new.out in
    let there = sym c.vendor_specific_flag.ensures ∙ c.if-vendor_specific_flag.true in
    let room : 12 ≤ length s = omega (arith, c.header_size.ensures, with_vendor r there) in
    let code = number_replaced s 0 _ 4 r.code c.put_u32.ensures (omega arith) in
    let flags = two_replaced s1 4 _ 1 3 r.flags c.args.n c.put_u8_u24.ensures (omega arith) in
    let vendor = number_replaced s2 8 _ 4 r.vendor c.put_u32-then-vendor_specific_flag.ensures (omega arith) in
    rw (vendor.is, flags.is, code.is) (vendor_put r c.args.n s there room)
