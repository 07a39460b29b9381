-- A message that the writer's definition makes has a header that is not refused and states its length, and its AVPs are the
-- body that it was made of: each field of the header is read back where it was packed.
use Prim.Native.Nat.{ℕ, ◌+◌, ◌-◌, ◌≤◌}
use mathlib.Core.Path.{◌≡◌, ◌∙◌}
use mathlib.Core.Bool.{true}
use mathlib.Core.List.{List, [], ◌∷◌}
use native.Mathlib.Omega.{arith}
use lib.ListN.{length, drop, length-append}
use lib.Seq.{drop_at, take_all}
use Rattle.octets.specs.Octets.{be, field, pack}
use Rattle.octets.proofs.Numbers.{length_pack, read_field}
use Rattle.refusal.specs.Answer.{passes}
use Rattle.rfc6733.specs.Header.{message_length, header_refusals}
use Rattle.rfc6733.specs.Decoder.{message_body}
use Rattle.refusal.proofs.Tests.{eq_is, tests}
use Rattle.rfc6733.specs.Writer.{Fields, most24, header_fields, message_bytes}

pub record Read (s body : List ℕ) : Type 0 where
  pub length_is : length s ≡ 20 + length body
  pub stated : message_length s ≡ 20 + length body
  pub header : passes (header_refusals s) ≡ true
  pub body_is : message_body s ≡ body

pub message_read : (f : Fields) (body : List ℕ) → 20 + length body ≤ most24 → Read (message_bytes f body) body
unfolding message_bytes header_refusals message_body
message_read f body le =
    let n = 20 + length body in
    let s = message_bytes f body in
    let l : length (pack (header_fields f n)) ≡ 20 = length_pack (header_fields f n) in
    let all : length s ≡ n = length-append (pack (header_fields f n)) body ∙ omega arith in
    let version : be 1 s 0 ≡ 1 = read_field [] 1 1 (drop 1 (header_fields f n)) body in
    let stated : message_length s ≡ n = read_field (field 1 1 ∷ []) 3 n (drop 2 (header_fields f n)) body ∙ omega arith in
    record {
      length_is = all;
      stated = stated;
      header = simp (eq_is, tests) (search arith);
      body_is = rw (stated, drop_at (pack (header_fields f n)) body 20 l) (take_all (n - 20) body (omega arith));
    }
