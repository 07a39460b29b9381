-- The packet (RFC 2865, section 3): its header, its attributes, and what decoding it answers (docs/FORMAT.md, 11).
use Rattle.std.specs.Prelude.{ℕ, ◌+◌, ◌-◌, ◌||◌, List, [], ◌∷◌, ◌++◌, length, take, drop, get_or, ltb}
use Rattle.octets.specs.Octets.{Layout, total, value_at}
use Rattle.octets.specs.Run.{Tree, tree, tried, items}
use Rattle.refusal.specs.Answer.{Answer, Test, refuse, answer}
use Rattle.refusal.specs.declared.Refusal.TheVariants.{Incomplete, BadLength}
use Rattle.record.specs.Record.{Record}
use Rattle.record.specs.Counts.{Counts}
use Rattle.record.specs.Refusals.{tile_refusals, room_refusals}
use Rattle.rfc2865.specs.Attribute.{attributes}
use Rattle.rfc2865.specs.Records.{records, errors}

-- ---- the header

-- its first three fields
pub record Front : Type 0 where
  pub code : ℕ
  pub identifier : ℕ
  -- of the whole packet
  pub length : ℕ

abbrev pub front_layout : Layout Front
front_layout =
    record {
      sizes = 1 ∷ 1 ∷ 2 ∷ [];
      numbers = λ f. f.code ∷ f.identifier ∷ f.length ∷ [];
      made = λ ns. record { code = get_or ns 0 0; identifier = get_or ns 1 0; length = get_or ns 2 0 };
    }

abbrev pub front_size : ℕ
front_size = total front_layout.sizes

abbrev pub authenticator_size : ℕ
authenticator_size = 16

abbrev pub header_size : ℕ
header_size = front_size + authenticator_size

abbrev pub packet_length : List ℕ → ℕ
packet_length s = (value_at front_layout s).length

abbrev pub least_packet : ℕ
least_packet = 20

abbrev pub most_packet : ℕ
most_packet = 4096

-- what a header has beside the length, and what the writer takes
pub record Header : Type 0 where
  pub code : ℕ
  pub identifier : ℕ
  pub authenticator : List ℕ

unfoldable pub header_of : List ℕ → Header
header_of s =
    record {
      code = (value_at front_layout s).code;
      identifier = (value_at front_layout s).identifier;
      authenticator = take authenticator_size (drop front_size s);
    }

-- how it is refused, in order
unfoldable pub header_refusals : List ℕ → List Test
header_refusals s =
    let n = packet_length s in
    refuse (ltb (length s) front_size) (Incomplete (front_size - length s))
    ∷ refuse (ltb n least_packet || ltb most_packet n) BadLength
    ∷ refuse (ltb (length s) n) (Incomplete (n - length s))
    ∷ []

-- ---- the attributes, bytes 20..length. What is past the length is padding, and ignored

unfoldable pub packet_body : List ℕ → List ℕ
packet_body s = take (packet_length s - header_size) (drop header_size s)

abbrev pub run : List ℕ → Tree
run s = tree attributes (packet_body s)

unfoldable pub packet_records : List ℕ → List Record
packet_records s = records header_size (items (run s))

-- ---- the answer

pub record Packet : Type 0 where
  pub header : Header
  pub counts : Counts

unfoldable pub packet_of : List ℕ → Packet
packet_of s =
    record {
      header = header_of s;
      counts =
          record {
            errors = errors (items (run s));
            records = length (packet_records s);
            tried = tried (run s);
            length = packet_length s;
          };
    }

unfoldable pub packet_refusals : ℕ → List ℕ → List Test
packet_refusals room s = header_refusals s ++ (tile_refusals (run s) ++ room_refusals room (packet_records s))

-- by how many records there is room for, and the input
unfoldable pub decoded : ℕ → List ℕ → Answer Packet
decoded room s = answer (packet_refusals room s) (packet_of s)
