-- A packet that the writer's definition makes has a header that is not refused and states its length, and its attributes are the body that
-- it was made of: each field of the header is read back where it was packed.
use Prim.Native.Nat.{ℕ, ◌+◌, ◌-◌, ◌%◌, ◌^◌, ◌≤◌, ◌<◌}
use mathlib.Core.Path.{◌≡◌, ◌∙◌}
use mathlib.Core.List.{List, [], ◌∷◌, ◌++◌, append_assoc}
use native.Mathlib.Omega.{arith}
use lib.ListN.{length, take, drop}
use lib.Seq.{drop_at, take_at, take_all}
use Rattle.octets.specs.Octets.{be, field, pack}
use Rattle.octets.proofs.Numbers.{length_pack, read_field}
use Rattle.rfc2865.specs.Packet.{authenticator_size, header_size, most_packet, packet_length, Header, header_of, packet_body}
use Rattle.rfc2865.specs.Writer.{header_bytes, packet_bytes}
use Rattle.rfc2865.proofs.Accepted.{Headed}
use Rattle.rfc2865.proofs.Lengths.{front, header_length, packet_length_lem}

-- a header whose fields fit their bytes
pub record Sized (h : Header) : Type 0 where
  pub code_fits : h.code < 256
  pub identifier_fits : h.identifier < 256
  pub authenticator_is : length h.authenticator ≡ authenticator_size

pub record Read (h : Header) (s body : List ℕ) : Type 0 where
  pub length_is : length s ≡ header_size + length body
  pub stated : packet_length s ≡ header_size + length body
  pub header_is : header_of s ≡ h
  pub body_is : packet_body s ≡ body

pub packet_read : (h : Header) (body : List ℕ) → Sized h → header_size + length body ≤ most_packet → Read h (packet_bytes h body) body
unfolding packet_bytes header_bytes header_of packet_body
packet_read h body z le =
    let n = header_size + length body in
    let fs = front h n in
    let rest = h.authenticator ++ body in
    let s = packet_bytes h body in
    let l : length (pack fs) ≡ 4 = length_pack fs in
    let split : s ≡ pack fs ++ rest = append_assoc (pack fs) h.authenticator body in
    let a = z.authenticator_is in
    let all = packet_length_lem h a body in
    let stated_low : be 2 s 2 ≡ n % 256 ^ 2 = rw split (read_field (field 1 h.code ∷ field 1 h.identifier ∷ []) 2 n [] rest) in
    let stated : packet_length s ≡ n = stated_low ∙ omega arith in
    let code_low : be 1 s 0 ≡ h.code % 256 ^ 1 = rw split (read_field [] 1 h.code (drop 1 fs) rest) in
    let code_is : be 1 s 0 ≡ h.code = code_low ∙ omega (arith, z.code_fits) in
    let identifier_low : be 1 s 1 ≡ h.identifier % 256 ^ 1 = rw split (read_field (field 1 h.code ∷ []) 1 h.identifier (drop 2 fs) rest) in
    let identifier_is : be 1 s 1 ≡ h.identifier = identifier_low ∙ omega (arith, z.identifier_fits) in
    let authenticator_is : take 16 (drop 4 s) ≡ h.authenticator =
    rw (split, drop_at (pack fs) rest 4 l) (take_at h.authenticator body 16 a)
    in
    record {
      length_is = all;
      stated = stated;
      header_is = rw (code_is, identifier_is, authenticator_is);
      body_is = rw (drop_at (header_bytes h n) body 20 (header_length h a n)) (take_all (packet_length s - header_size) body (omega (arith, stated, all)));
    }

pub packet_headed : (h : Header) (s body : List ℕ) → header_size + length body ≤ most_packet → Read h s body → Headed s
packet_headed h s body le r =
    record {
      front = omega (arith, r.length_is);
      least = omega (arith, r.stated);
      most = omega (arith, r.stated);
      there = omega (arith, r.stated, r.length_is);
    }
