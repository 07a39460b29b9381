-- What is known of a message once its header was accepted: the header is the definition's, and its bytes from 20 up to the length that it
-- states are there.
use Prim.Native.Nat.{ℕ, ◌-◌}
use mathlib.Core.Path.{◌≡◌, sym, ap}
use mathlib.Core.Bool.{true}
use mathlib.Core.List.{List}
use lib.ListN.{take, drop}
use Rattle.refusal.specs.Answer.{passes}
use Rattle.refusal.proofs.Answers.{passed}
use Rattle.rfc6733.specs.Header as rfc
use Rattle.rfc6733.specs.Header.{message_length, header_of, header_errors, header_refusals}
use Rattle.rfc6733.specs.Decoder as definition
use Rattle.rfc6733.specs.Decoder.{header_alone, message_body}
use Rattle.rfc6733.proofs.Accepted.{Headed, headed}
use Rattle.header.specs.declared.Header.{Header}
use Rattle.std.specs.Prelude.{Ok}
use Rattle.header.specs.declared.Parsed.{Parsed}
use Rattle.header.specs.Parsed.{header_as, parsed_as, answer_of}

-- the header is the definition's
pub record Body (p : Parsed) (s : List ℕ) : Type 0 where
  pub passes_all : passes (header_refusals s) ≡ true
  pub header_is : header_as p.header ≡ header_of s
  pub errors_are : p.errors ≡ header_errors s
  pub length_is : p.header.length ≡ message_length s
  pub facts : Headed s
  -- bytes 20..length
  pub body_is : take (p.header.length - 20) (drop 20 s) ≡ message_body s

pub body : (p : Parsed) (s : List ℕ) → answer_of (Ok p) ≡ header_alone s → Body p s
unfolding header_alone header_as header_of message_body
body parsed s e =
    let p = passed (header_refusals s) _ _ (sym e) in
    let hd : header_of s ≡ header_as parsed.header = ap (λ (m : definition.Message). m.header) p.1 in
    let l : parsed.header.length ≡ message_length s = ap (λ (x : rfc.Header). x.length) (sym hd) in
    record {
      passes_all = p.0;
      header_is = sym hd;
      errors_are = sym (ap (λ (m : definition.Message). m.counts.errors) p.1);
      length_is = l;
      facts = headed s p.0;
      body_is = ap (λ (n : ℕ). take (n - 20) (drop 20 s)) l;
    }
