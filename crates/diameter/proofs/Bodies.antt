-- Once the header of a message was accepted, its body is the run that the definition reads; so the message is refused as the body is, and
-- else accepted with the body's counts.
use Prim.Native.Nat.{ℕ, ◌-◌, ◌≤◌}
use mathlib.Core.Path.{◌≡◌, sym, ap, ◌∙◌}
use mathlib.Core.Bool.{true}
use mathlib.Core.List.{List}
use native.Mathlib.Omega.{arith}
use lib.ListN.{take, drop, length-take}
use Rattle.refusal.specs.Answer.{Refusal, accepted, refused, answer}
use Rattle.flags.specs.Flags.{join}
use Rattle.rfc6733.specs.Dictionary.{Dictionary}
use Rattle.rfc6733.specs.Decoder.{allowed, run_records, run_counts, message_records, message_of, decoded}
use Rattle.record.specs.Store.{stored}
use Rattle.refusal.proofs.Answers as answers
use Rattle.refusal.proofs.Answers.{passed, answer_alike}
use Rattle.std.specs.Prelude.{Ok}
use Rattle.header.specs.declared.Parsed.{Parsed}
use Rattle.header.proofs.Bodies as header
use Rattle.header.proofs.Bodies.{Body}
use Rattle.rfc6733.proofs.Decoded.{rest, message_past}
use Rattle.avps.specs.declared.Counts.{Counts}
use Rattle.record.specs.Record.{last_place}
use Rattle.avps.specs.Answers.{counts_as, run_answer}
use Rattle.avps.proofs.Answered.{past_limit}
use Rattle.diameter.specs.declared.Message.{Message}
use Rattle.diameter.specs.Answers.{Headed, message_as, answer_of}

pub body : (h : Parsed) (s : List ℕ) → Headed h s → Body h s
body h s e = header.body h s e.is

-- ---- the answer and the store, from those of the body

module _ (D : Dictionary) (limit room : ℕ) (h : Parsed) (s : List ℕ) (ok : allowed limit ≡ true) (e : Headed h s) (short : h.header.length ≤ last_place) where
  abbrev body_of : List ℕ
  body_of = take (h.header.length - 20) (drop 20 s)

  -- the body is refused, or not, where the message is past its header
  body_answer : answer (rest D limit room s) (run_counts D 20 body_of) ≡ run_answer D limit room 20 body_of
  body_answer =
      let b = body h s e in
      let l = length-take (h.header.length - 20) (drop 20 s) in
      rw (← b.body_is) (past_limit D limit room 20 body_of (omega (arith, b.length_is, b.facts.twenty)) ok)

  past : answer (rest D limit room s) (message_of D s) ≡ decoded D limit room s
  past = message_past D limit room s ok (body h s e).passes_all

  pub refuses : (why : Refusal) → refused why ≡ run_answer D limit room 20 body_of → refused why ≡ decoded D limit room s
  refuses why is = sym (answer_alike (rest D limit room s) (run_counts D 20 body_of) (message_of D s) why (body_answer ∙ sym is)) ∙ past

  abbrev message : Counts → ℕ → Message
  message c joined = record { header = h.header; errors = joined; records = c.records; tried = c.tried; length = h.header.length }

  pub accepts : (c : Counts) → accepted (counts_as c) ≡ run_answer D limit room 20 body_of → (before after : List ℕ)
      → after ≡ stored (accepted (counts_as c)) (run_records D 20 body_of) before → {x : ℕ} → x ≡ join h.errors c.errors
      → (answer_of (Ok (message c x)) ≡ decoded D limit room s) × (after ≡ stored (answer_of (Ok (message c x))) (message_records D s) before)
  unfolding stored message_as counts_as message_of message_records
  accepts c is before after left joined =
      let b = body h s e in
      let p = passed (rest D limit room s) (run_counts D 20 body_of) (counts_as c) (body_answer ∙ sym is) in
      let counts = rw b.body_is at p.1 in (
        ap accepted
            (rw (b.header_is, joined, b.errors_are, counts, b.length_is))
            ∙ sym (answers.accepts (rest D limit room s) (message_of D s) p.0) ∙ past,
        rw b.body_is at left,
      )
