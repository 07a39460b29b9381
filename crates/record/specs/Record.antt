-- A record and its bytes (docs/FORMAT.md, 6).
use Rattle.std.specs.Prelude.{ℕ, ◌-◌, ◌^◌, List, [], ◌∷◌, ◌++◌, get_or}
use Rattle.record.specs.declared.Record as declared
use Rattle.octets.specs.Octets.{Field, pack, Layout, total, fields_of, value_at}

-- a record is what the struct of record/src/lib.rt is
abbrev pub Record : Type 0
Record = declared.Record

-- the layout; byte 23 is zero
abbrev pub record_layout : Layout Record
record_layout =
    record {
      sizes = 4 ∷ 1 ∷ 3 ∷ 4 ∷ 4 ∷ 1 ∷ 1 ∷ 1 ∷ 1 ∷ 3 ∷ 1 ∷ 8 ∷ 4 ∷ [];
      numbers =
          λ r.
          r.code ∷ r.flags ∷ r.length ∷ r.vendor ∷ r.place ∷ r.depth ∷ r.kind ∷ r.errors ∷ r.padding ∷ r.pads ∷ 0 ∷ r.value ∷ r.parent ∷ [];
      made =
          λ ns.
          record {
            code = get_or ns 0 0;
            flags = get_or ns 1 0;
            length = get_or ns 2 0;
            vendor = get_or ns 3 0;
            place = get_or ns 4 0;
            depth = get_or ns 5 0;
            kind = get_or ns 6 0;
            errors = get_or ns 7 0;
            padding = get_or ns 8 0;
            pads = get_or ns 9 0;
            value = get_or ns 11 0;
            parent = get_or ns 12 0;
          };
    }

abbrev pub record_size : ℕ
record_size = total record_layout.sizes

-- the last place that fits its four bytes
abbrev pub last_place : ℕ
last_place = 256 ^ 4 - 1

abbrev pub layout : Record → List Field
layout r = fields_of record_layout r

unfoldable pub record_bytes : Record → List ℕ
record_bytes r = pack (layout r)

-- the record at the front of a table
unfoldable pub record_at : List ℕ → Record
record_at s = value_at record_layout s

-- a table of records
abbrev pub laid : List Record → List ℕ
laid [] = []
laid (r ∷ rs) = record_bytes r ++ laid rs
