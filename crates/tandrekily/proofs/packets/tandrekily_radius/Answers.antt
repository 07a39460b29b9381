-- `tandrekily_radius` meets its contract: it lays out what `radius::parse` answers, which fills the store, and gives the authenticator where the
-- packet is accepted.
use mathlib.Core.Path.{◌≡◌, sym, ap, ◌∙◌}
use Rattle.refusal.specs.Answer.{Answer}
use Rattle.rfc2865.specs.Packet.{Packet}
use Rattle.std.specs.Prelude.{Result}
use Rattle.refusal.specs.Answer.{Refusal}
use Rattle.radius.specs.declared.Packet as radius
use Rattle.radius.specs.Answers.{answer_with}
use Rattle.results.specs.Packets.{packet_result}
use Rattle.tandrekily.specs.Packets.{packet_asked, authenticator_after}
use Rattle.tandrekily.proofs.packets.tandrekily_radius.Goals as goal
use Rattle.tandrekily.proofs.packets.tandrekily_radius.Goals.{After-parse-parsed}

-- an answer that is the packet's, with what was given as its authenticator
answered : (c : After-parse-parsed) (d : Result radius.Packet Refusal) → d ≡ c.parse-parsed.result.decoded
    → answer_with c.parse-parsed.result.authenticator d ≡ packet_asked c.args.store.now c.args.input.now
answered c d e = ap (answer_with c.parse-parsed.result.authenticator) e ∙ c.parse-parsed.ensures.answer

pub returns-in-Ok : goal.returns-in-Ok
unfolding authenticator_after
returns-in-Ok c =
    let told = c.parse-parsed.ensures in
    let e = answered (goal.at.returns-in-Ok c).After-parse-parsed _ (sym c.in-Ok.is) in
    record {
      res = c.lay.ensures ∙ ap packet_result e;
      authenticator = ap (λ (x : Answer Packet). authenticator_after x c.args.authenticator.now) e;
      store = rw told.answer at told.store;
    }

pub returns-in-Err : goal.returns-in-Err
unfolding authenticator_after
returns-in-Err c =
    let told = c.parse-parsed.ensures in
    let e = answered (goal.at.returns-in-Err c).After-parse-parsed _ (sym c.in-Err.is) in
    record {
      res = c.refused.ensures ∙ ap packet_result e;
      authenticator = ap (λ (x : Answer Packet). authenticator_after x c.args.authenticator.now) e;
      store = rw told.answer at told.store;
    }
