-- `answer` meets its contract: its tests are the refusals of the definition, in their order.
use native.Mathlib.Omega.{arith}
use Rattle.std.proofs.lemmas.Result.{err_from_is_err_and}
use Rattle.writable.proofs.Writing.{bad_header, bad_record, cut_off, too_long, no_room, fits_room}
use Rattle.writable.proofs.answer.Goals as goal

pub returns-then-code-gt-MOST_CODE : goal.returns-then-code-gt-MOST_CODE
returns-then-code-gt-MOST_CODE c = bad_header _ _ _ _ (omega arith)

pub returns-in_err-size : goal.returns-in_err-size
returns-in_err-size c =
    let back = err_from_is_err_and c.from_residual.result c.from_residual.ensures.1 in
    rw (back.1, back.2) (bad_record _ _ _ _ (omega arith) _ c.in_err-size.ensures)

pub returns-then-table-ne0 : goal.returns-then-table-ne0
returns-then-table-ne0 c = cut_off _ _ _ _ (omega arith) _ c.in_ok-size.ensures c.if-table-ne0.true

pub returns-then-size : goal.returns-then-size
returns-then-size c = too_long _ _ _ _ (omega arith) _ c.in_ok-size.ensures (omega arith) (omega arith)

pub returns-then-room-total : goal.returns-then-room-total
returns-then-room-total c =
    no_room _ _ _ _ (omega arith) _ c.in_ok-size.ensures (omega arith) (omega arith) (omega arith)

pub returns : goal.returns
returns c = fits_room _ _ _ _ (omega arith) _ c.in_ok-size.ensures (omega arith) (omega arith) (omega arith)
