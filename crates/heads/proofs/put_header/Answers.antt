-- `put_header` meets its contract: each field is put right behind the one before, so the seven are put as one.
use native.Mathlib.Omega.{arith}
use borrow.Rule.Slice.PartMut.{put_mid}
use Rattle.word.proofs.Part.{number_replaced, two_replaced}
use Rattle.header.specs.Parsed.{header_as}
use Rattle.heads.proofs.Fronts.{header_put, no_header_put}
use Rattle.heads.proofs.put_header.Goals as goal

pub returns-then-out-lt-SIZE : goal.returns-then-out-lt-SIZE
returns-then-out-lt-SIZE c = no_header_put (header_as c.args.h) c.args.out.now (omega arith)

pub returns : goal.returns
unfolding header_as
returns c =
    let h = c.args.h in
    let s = c.args.out.now in
    let s1 = put_mid 0 4 s c.put_u8_u24.new.out in
    let s2 = put_mid 4 4 s1 c.put_u8_u24-2.new.out in
    let s3 = put_mid 8 4 s2 c.put_u32.new.out in
    let s4 = put_mid 12 4 s3 c.put_u32-2.new.out in
    let length = two_replaced s 0 _ 1 3 h.version h.length c.put_u8_u24.ensures (omega arith) in
    let code = two_replaced s1 4 _ 1 3 h.flags h.code c.put_u8_u24-2.ensures (omega arith) in
    let app_id = number_replaced s2 8 _ 4 h.app_id c.put_u32.ensures (omega arith) in
    let hop_id = number_replaced s3 12 _ 4 h.hop_id c.put_u32-2.ensures (omega arith) in
    let end_id = number_replaced s4 16 _ 4 h.end_id c.put_u32-3.ensures (omega arith) in
    rw (end_id.is, hop_id.is, app_id.is, code.is, length.is) (header_put (header_as h) s (omega arith))
