-- The header of a message (RFC 6733, section 3): its fields, its flags, and how it is refused.
use Rattle.std.specs.Prelude.{ℕ, ◌-◌, ◌%◌, ◌^◌, not, List, [], ◌∷◌, length, get_or, ltb, eqb}
use Rattle.octets.specs.Octets.{Layout, total, value_at}
use Rattle.flags.specs.Flags.{non_zero_reserved, flag}
use Rattle.refusal.specs.Answer.{Test, refuse}
use Rattle.refusal.specs.declared.Refusal.TheVariants.{Incomplete, NotVersion, BadLength}

pub record Header : Type 0 where
  pub version : ℕ
  pub length : ℕ
  pub flags : ℕ
  pub code : ℕ
  pub app_id : ℕ
  pub hop_id : ℕ
  pub end_id : ℕ

abbrev pub header_layout : Layout Header
header_layout =
    record {
      sizes = 1 ∷ 3 ∷ 1 ∷ 3 ∷ 4 ∷ 4 ∷ 4 ∷ [];
      numbers = λ h. h.version ∷ h.length ∷ h.flags ∷ h.code ∷ h.app_id ∷ h.hop_id ∷ h.end_id ∷ [];
      made =
          λ ns.
          record {
            version = get_or ns 0 0;
            length = get_or ns 1 0;
            flags = get_or ns 2 0;
            code = get_or ns 3 0;
            app_id = get_or ns 4 0;
            hop_id = get_or ns 5 0;
            end_id = get_or ns 6 0;
          };
    }

abbrev pub header_size : ℕ
header_size = total header_layout.sizes

unfoldable pub header_of : List ℕ → Header
header_of s = value_at header_layout s

-- the length that the header states, of the whole message
abbrev pub message_length : List ℕ → ℕ
message_length s = (value_at header_layout s).length

-- the command flags, R P E T and four that are reserved
abbrev pub request_bit : ℕ
request_bit = 7

abbrev pub proxiable_bit : ℕ
proxiable_bit = 6

abbrev pub error_bit : ℕ
error_bit = 5

abbrev pub retransmitted_bit : ℕ
retransmitted_bit = 4

abbrev pub header_reserved : ℕ → ℕ
header_reserved f = f % 2 ^ 4

-- the length of the AVPs, and 0 where the header states a length that is under its own
abbrev pub avps_length : ℕ → ℕ
avps_length n = n - header_size

-- the header's own error flags: its reserved bits
unfoldable pub header_errors : List ℕ → ℕ
header_errors s = flag (not (eqb (header_reserved (value_at header_layout s).flags) 0)) non_zero_reserved

-- its refusals, in order
unfoldable pub header_refusals : List ℕ → List Test
header_refusals s =
    refuse (ltb (length s) 1) (Incomplete 1)
    ∷ refuse (not (eqb (value_at header_layout s).version 1)) NotVersion
    ∷ refuse (ltb (length s) 4) (Incomplete (4 - length s))
    ∷ refuse (ltb (message_length s) 4) BadLength
    ∷ refuse (ltb (length s) (message_length s)) (Incomplete (message_length s - length s))
    ∷ refuse (ltb (message_length s) header_size) BadLength
    ∷ []
