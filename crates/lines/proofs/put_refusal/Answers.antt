-- `put_refusal` meets its contract: the word is copied, and the line of number and amount is put after it.
use Rattle.std.proofs.Common.{[], ◌∷◌, ◌++◌, refl}
use Rattle.rfc6733.specs.Dump.{refused_word}
use Rattle.lines.proofs.Puts.{front_put, put_more}
use Rattle.lines.proofs.put_refusal.Goals as goal

pub returns : goal.returns
returns c =
    let word = front_put (refused_word ++ (32 ∷ [])) c.args.out.now refl c.copy_from_slice.ensures.after in
    put_more word (rw (c.number.ensures, c.amount.ensures) at c.put_line.ensures)
