-- Fragments of a run: what decoding one gives, and how two are merged. For every dictionary it is proved that a joined
-- run is decoded to the merged fragments (proofs/Joining), so a caller may decode before joining or after it.
use Rattle.std.specs.Prelude.{ℕ, ◌+◌, ◌≡◌, true, cond, List, [], ◌++◌, map, eqb}
use Rattle.refusal.specs.Answer.{passes}
use Rattle.flags.specs.Flags.{join}
use Rattle.record.specs.Record.{Record}
use Rattle.record.specs.Counts.{Counts}
use Rattle.rfc6733.specs.Header.{header_size, header_refusals}
use Rattle.rfc6733.specs.Dictionary.{Dictionary}
use Rattle.rfc6733.specs.Decoder.{run_records, run_counts, message_body}

pub record Fragment : Type 0 where
  pub counts : Counts
  pub records : List Record

-- of a run whose first byte stands at a place
abbrev pub fragment : Dictionary → ℕ → List ℕ → Fragment
fragment D place s = record { counts = run_counts D place s; records = run_records D place s }

-- a record behind so many bytes and records more: its place moves, and its parent, but not the mark at depth 1
unfoldable pub shifted : ℕ → ℕ → Record → Record
shifted bytes count r =
    record {
      code = r.code;
      flags = r.flags;
      length = r.length;
      vendor = r.vendor;
      place = bytes + r.place;
      depth = r.depth;
      kind = r.kind;
      errors = r.errors;
      padding = r.padding;
      pads = r.pads;
      value = r.value;
      parent = cond (eqb r.depth 1) r.parent (count + r.parent);
    }

-- counts of two, one after the other
abbrev pub merged_counts : Counts → Counts → Counts
merged_counts a b =
    record {
      errors = join a.errors b.errors;
      records = a.records + b.records;
      tried = a.tried + b.tried;
      length = a.length + b.length;
    }

abbrev pub merged : Fragment → Fragment → Fragment
merged x y =
    record {
      counts = merged_counts x.counts y.counts;
      records = x.records ++ map (shifted x.counts.length x.counts.records) y.records;
    }

-- of the empty run
abbrev pub nothing : Fragment
nothing = record { counts = record { errors = 0; records = 0; tried = 0; length = 0 }; records = [] }

-- ---- messages

-- the first's AVPs and then the second's are those of s, whose own header is not refused
pub record HoldsBoth (first second s : List ℕ) : Type 0 where
  pub header_passes : passes (header_refusals s) ≡ true
  pub body_is : message_body s ≡ message_body first ++ message_body second

-- the error flags of a message's AVPs, its header's own set apart
unfoldable pub avp_errors : Dictionary → List ℕ → ℕ
avp_errors D s = (run_counts D header_size (message_body s)).errors
