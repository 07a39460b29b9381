-- How long the parts of a packet are: an attribute is as long as its record says, since its data are there; a header is 20 bytes, since its
-- authenticator is 16.
use Prim.Native.Nat.{ℕ, ◌+◌}
use mathlib.Core.Path.{◌≡◌, ◌∙◌}
use mathlib.Core.List.{List, ◌++◌}
use native.Mathlib.Omega.{arith}
use lib.ListN.{length, drop, length-append, length-drop}
use lib.Seq.{length-take-le}
use Rattle.octets.specs.Octets.{Field, pack, fields_of}
use Rattle.octets.proofs.Numbers.{length_pack}
use Rattle.record.specs.Record.{Record}
use Rattle.rfc2865.specs.Attribute.{Head, head_layout}
use Rattle.rfc2865.specs.Packet.{Front, front_layout, authenticator_size, header_size, Header}
use Rattle.rfc2865.specs.Writer.{stated_data, data_in, attribute_bytes, header_bytes, packet_bytes}
use Rattle.rfc2865.proofs.Rules.{Good}

-- ---- an attribute

-- the fields of its header
abbrev pub head : Record → List Field
head r = let h : Head = record { code = r.code; length = r.length } in fields_of head_layout h

module _ (pool : List ℕ) (r : Record) (g : Good (length pool) r) where
  pub data_length : length (data_in pool r) ≡ stated_data r
  data_length = length-take-le (stated_data r) (drop r.place pool) (omega (arith, length-drop r.place pool, g.within))

  pub attribute_length_lem : length (attribute_bytes pool r) ≡ r.length
  unfolding attribute_bytes
  attribute_length_lem = length-append (pack (head r)) (data_in pool r) ∙ omega (arith, length_pack (head r), data_length, g.least)

-- ---- a packet

-- the fields before its authenticator
abbrev pub front : Header → ℕ → List Field
front h n = let f : Front = record { code = h.code; identifier = h.identifier; length = n } in fields_of front_layout f

module _ (h : Header) (sixteen : length h.authenticator ≡ authenticator_size) where
  pub header_length : (n : ℕ) → length (header_bytes h n) ≡ header_size
  unfolding header_bytes
  header_length n = length-append (pack (front h n)) h.authenticator ∙ omega (arith, length_pack (front h n))

  -- whatever length it states
  with_header : (n : ℕ) (body : List ℕ) → length (header_bytes h n ++ body) ≡ header_size + length body
  with_header n body = length-append (header_bytes h n) body ∙ omega (arith, header_length n)

  pub packet_length_lem : (body : List ℕ) → length (packet_bytes h body) ≡ header_size + length body
  unfolding packet_bytes
  packet_length_lem body = with_header _ body
