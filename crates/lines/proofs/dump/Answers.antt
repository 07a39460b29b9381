-- `dump` meets its contract: what the decoder answered of the input's front is what the definition reads, and its text is put.
use Rattle.std.proofs.Common.{◌≡◌, ℕ, List, length, sym, take, min, arith}
use Rattle.std.proofs.lemmas.List.{take_min}
use Rattle.octets.proofs.Held.{bytes_take}
use Rattle.attribute.specs.Attributes.{dictionary}
use Rattle.record.specs.Store.{stored}
use Rattle.rfc6733.specs.Dump.{refusal_text}
use Rattle.diameter.specs.Answers.{message_as}
use Rattle.lines.proofs.Dumps.{Text, text_put, refused_text, Stored, accepted_text}
use Rattle.lines.proofs.dump.Goals as goal
use Rattle.lines.proofs.dump.Goals.{In-Ok, In-Err}

front : (n : ℕ) (s : List ℕ) → n ≡ min 32768 (length s) → take n s ≡ take 32768 s
front n s is = rw is (take_min 32768 s)

-- a message that was accepted, with the store that is left, of 36,864 bytes: that is 1,024 records
accepted : (c : In-Ok) → Stored c.args.input.now (message_as c.in-Ok.m).counts c.parse.new.store
unfolding dictionary stored
accepted c =
    accepted_text _ _ (front _ _ c.min-front.ensures) (message_as c.in-Ok.m)
    (bytes_take c.min-front.result c.args.input.now (λ i. omega (arith, c.type_inv.input i)))
    (sym c.in-Ok.ensures.answer) _ c.in-Ok.ensures.store

refused : (c : In-Err) → Text c.args.input.now (refusal_text c.in-Err.why)
unfolding dictionary
refused c = refused_text _ _ (front _ _ c.min-front.ensures) c.in-Err.why c.in-Err.ensures.answer

pub put_message-requires : goal.put_message-requires
unfolding message_as
put_message-requires c =
    let t = accepted (goal.at.put_message-requires c).In-Ok in
    record { stored = t.there; fits = omega (arith, t.text_is.short) }

pub put_refusal-requires : goal.put_refusal-requires
put_refusal-requires c =
    let t = refused (goal.at.put_refusal-requires c).In-Err in
    omega (arith, t.short)

pub returns-in-Ok : goal.returns-in-Ok
returns-in-Ok c =
    let t = accepted (goal.at.returns-in-Ok c).In-Ok in
    let p = text_put c.args.input.now (omega arith) t.text_is c.put_message.ensures in
    record { text = p.0; size = p.1.0; within = p.1.1 }

pub returns-in-Err : goal.returns-in-Err
returns-in-Err c =
    let t = refused (goal.at.returns-in-Err c).In-Err in
    let p = text_put c.args.input.now (omega arith) t c.put_refusal.ensures in
    record { text = p.0; size = p.1.0; within = p.1.1 }
