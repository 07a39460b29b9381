-- What each way of decoding answers (docs/FORMAT.md, 7), and of which records.
use Rattle.std.specs.Prelude.{ℕ, ◌-◌, Bool, not, ◌&&◌, List, [], ◌∷◌, ◌++◌, length, take, drop, leb, ltb}
use Rattle.octets.specs.Run.{Tree, tree, item, tried, deepest}
use Rattle.refusal.specs.Answer.{Answer, Test, refuse, answer}
use Rattle.refusal.specs.declared.Refusal.TheVariants.{TooDeep, BadDepth}
use Rattle.flags.specs.Flags.{join}
use Rattle.rfc6733.specs.Header.{Header, header_size, message_length, header_of, header_errors, header_refusals}
use Rattle.rfc6733.specs.Avp.{avp_size, avp_refusals, most_depth}
use Rattle.rfc6733.specs.Dictionary.{Dictionary}
use Rattle.record.specs.Record.{Record}
use Rattle.record.specs.Parents.{parented}
use Rattle.record.specs.Counts.{Counts}
use Rattle.record.specs.Refusals.{tile_refusals, room_refusals}
use Rattle.rfc6733.specs.Records.{avps, errors, records}

pub record Message : Type 0 where
  pub header : Header
  pub counts : Counts

-- ---- the header alone: it takes no limits

unfoldable pub header_alone : List ℕ → Answer Message
header_alone s =
    answer (header_refusals s)
    (record { header = header_of s; counts = record { errors = header_errors s; records = 0; tried = 0; length = header_size } })

-- ---- the limits

-- the depth limit is 1..64
unfoldable pub allowed : ℕ → Bool
allowed limit = leb 1 limit && leb limit most_depth

abbrev pub limit_refusals : ℕ → List Test
limit_refusals limit = refuse (not (allowed limit)) BadDepth ∷ []

-- ---- a run of AVPs, which stands at a place

unfoldable pub run_records : Dictionary → ℕ → List ℕ → List Record
run_records D place s = parented (records D place 1 (tree (avps D) s))

-- what its acceptance returns
unfoldable pub run_counts : Dictionary → ℕ → List ℕ → Counts
run_counts D place s =
    let t = tree (avps D) s in
    record { errors = errors D t; records = length (run_records D place s); tried = tried t; length = length s }

-- it is refused where it does not tile; where it tries a header deeper than the limit
abbrev pub depth_refusals : ℕ → Tree → List Test
depth_refusals limit t = refuse (ltb limit (deepest t)) TooDeep ∷ []

-- and where it has more records than there is room for
abbrev pub fit_refusals : ℕ → ℕ → Tree → List Record → List Test
fit_refusals limit room t rs = depth_refusals limit t ++ room_refusals room rs

abbrev pub run_refusals : Dictionary → ℕ → ℕ → ℕ → List ℕ → List Test
run_refusals D limit room place s = let t = tree (avps D) s in tile_refusals t ++ fit_refusals limit room t (run_records D place s)

-- ---- a message

-- its AVPs are bytes 20..length
unfoldable pub message_body : List ℕ → List ℕ
message_body s = take (message_length s - header_size) (drop header_size s)

unfoldable pub message_records : Dictionary → List ℕ → List Record
message_records D s = run_records D header_size (message_body s)

-- how it is refused for its bytes, the limit being allowed
abbrev pub bytes_refusals : Dictionary → ℕ → ℕ → List ℕ → List Test
bytes_refusals D limit room s = header_refusals s ++ run_refusals D limit room header_size (message_body s)

unfoldable pub message_refusals : Dictionary → ℕ → ℕ → List ℕ → List Test
message_refusals D limit room s = limit_refusals limit ++ bytes_refusals D limit room s

-- what its acceptance returns: the flags join the header's and the top level's
unfoldable pub message_of : Dictionary → List ℕ → Message
message_of D s =
    let run = run_counts D header_size (message_body s) in
    record {
      header = header_of s;
      counts =
          record {
            errors = join (header_errors s) run.errors;
            records = run.records;
            tried = run.tried;
            length = message_length s;
          };
    }

-- by the dictionary, the depth limit, how many records there is room for, and the input
unfoldable pub decoded : Dictionary → ℕ → ℕ → List ℕ → Answer Message
decoded D limit room s = answer (message_refusals D limit room s) (message_of D s)

-- ---- one AVP alone: its own bytes are a run of one, at depth 1. Places count from its first byte

unfoldable pub alone_records : Dictionary → List ℕ → List Record
alone_records D s = run_records D 0 (item (avps D) s)

abbrev pub alone_bytes_refusals : Dictionary → ℕ → ℕ → List ℕ → List Test
alone_bytes_refusals D limit room s = avp_refusals s ++ fit_refusals limit room (tree (avps D) (item (avps D) s)) (alone_records D s)

unfoldable pub alone_refusals : Dictionary → ℕ → ℕ → List ℕ → List Test
alone_refusals D limit room s = limit_refusals limit ++ alone_bytes_refusals D limit room s

-- its padded size is the length
unfoldable pub alone_of : Dictionary → List ℕ → Counts
alone_of D s =
    let run = run_counts D 0 (item (avps D) s) in
    record { errors = run.errors; records = run.records; tried = run.tried; length = avp_size s }

unfoldable pub avp_alone : Dictionary → ℕ → ℕ → List ℕ → Answer Counts
avp_alone D limit room s = answer (alone_refusals D limit room s) (alone_of D s)
