-- What is known of a message that is accepted, and of one AVP alone: every refusal's test, turned round.
use Prim.Native.Nat.{ℕ, ◌≤◌}
use mathlib.Core.Path.{◌≡◌}
use mathlib.Core.Bool.{true}
use mathlib.Core.List.{List}
use lib.ListN.{length}
use Rattle.octets.specs.Octets.{be}
use Rattle.octets.specs.Run.{item, tree, tiles, deepest}
use Rattle.refusal.specs.Answer.{accepted, passes}
use Rattle.rfc6733.specs.Header.{message_length, header_refusals}
use Rattle.rfc6733.specs.Avp.{complete, most_depth}
use Rattle.rfc6733.specs.Dictionary.{Dictionary}
use Rattle.rfc6733.specs.Records.{avps}
use Rattle.rfc6733.specs.Decoder.{Message, message_body, message_records, message_refusals, message_of, decoded, alone_refusals, alone_of, avp_alone}
use Rattle.record.specs.Counts.{Counts}
use Rattle.refusal.proofs.Answers.{passes_append, passed}
use Rattle.refusal.proofs.Tests.{eq_is, tests}
use Rattle.rfc6733.proofs.Decoded.{allowed_most}

pub record Headed (s : List ℕ) : Type 0 where
  pub version : be 1 s 0 ≡ 1
  pub twenty : 20 ≤ message_length s
  pub there : message_length s ≤ length s

pub headed : (s : List ℕ) → passes (header_refusals s) ≡ true → Headed s
unfolding header_refusals
headed s e = let h = simp (eq_is, tests) at e in search

pub record Accepted (D : Dictionary) (limit room : ℕ) (s : List ℕ) (m : Message) : Type 0 where
  pub limit_low : 1 ≤ limit
  pub limit_high : limit ≤ most_depth
  pub header : Headed s
  pub tiled : tiles (tree (avps D) (message_body s)) ≡ true
  pub shallow : deepest (tree (avps D) (message_body s)) ≤ limit
  pub fits : length (message_records D s) ≤ room
  pub message_is : message_of D s ≡ m

pub when_accepted : (D : Dictionary) (limit room : ℕ) (s : List ℕ) (m : Message)
    → decoded D limit room s ≡ accepted m → Accepted D limit room s m
unfolding decoded message_refusals message_records
when_accepted D limit room s m e =
    let p = passed (message_refusals D limit room s) (message_of D s) m e in
    let h = simp (passes_append, tests) at p.0 in
    let l = allowed_most limit h.0 in
    search headed

-- ---- one AVP alone

pub record AcceptedAlone (D : Dictionary) (limit : ℕ) (s : List ℕ) (c : Counts) : Type 0 where
  pub limit_high : limit ≤ most_depth
  pub whole : complete s ≡ true
  pub shallow : deepest (tree (avps D) (item (avps D) s)) ≤ limit
  pub counts_are : alone_of D s ≡ c

pub when_alone : (D : Dictionary) (limit room : ℕ) (s : List ℕ) (c : Counts) → avp_alone D limit room s ≡ accepted c → AcceptedAlone D limit s c
unfolding avp_alone alone_refusals complete
when_alone D limit room s c e =
    let p = passed (alone_refusals D limit room s) (alone_of D s) c e in
    let h = simp (passes_append, tests) at p.0 in
    let l = allowed_most limit h.0 in
    record { limit_high = l.1; whole = h.1.0; shallow = h.1.1.0.0; counts_are = p.1 }
