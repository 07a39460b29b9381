-- A table of records: as the writers take it, and whole.
use Rattle.std.specs.Prelude.{ℕ, zero, suc, ◌/◌, ◌%◌, Bool, true, cond, not, ◌&&◌, ◌||◌, List, [], ◌∷◌, length, drop, eqb, ltb}
use Rattle.octets.specs.Octets.{Fit}
use Rattle.refusal.specs.Answer.{Test, refuse}
use Rattle.refusal.specs.declared.Refusal.TheVariants.{BadTable}
use Rattle.record.specs.Record.{Record, record_layout, record_size, record_at}

-- a record with another kind, other error flags and another value
abbrev pub with_found : Record → ℕ → ℕ → ℕ → Record
with_found r kind errors value =
    record {
      code = r.code;
      flags = r.flags;
      length = r.length;
      vendor = r.vendor;
      place = r.place;
      depth = r.depth;
      kind = kind;
      errors = errors;
      padding = r.padding;
      pads = r.pads;
      value = value;
      parent = r.parent;
    }

-- a record with other error flags and another value
abbrev pub with_both : Record → ℕ → ℕ → Record
with_both r errors value =
    record {
      code = r.code;
      flags = r.flags;
      length = r.length;
      vendor = r.vendor;
      place = r.place;
      depth = r.depth;
      kind = r.kind;
      errors = errors;
      padding = r.padding;
      pads = r.pads;
      value = value;
      parent = r.parent;
    }

-- the writer takes neither
unfoldable pub bare : Record → Record
bare r = with_both r 0 0

-- the record at the front of a table, as it takes it
unfoldable pub entry_at : List ℕ → Record
entry_at s = bare (record_at s)

-- the first n records of a table
unfoldable pub records_in : ℕ → List ℕ → List Record
records_in zero s = []
records_in (suc n) s = entry_at s ∷ records_in n (drop record_size s)

unfoldable pub table_of : List ℕ → List Record
table_of s = records_in (length s / record_size) s

-- the first n, whole
abbrev pub whole_records : ℕ → List ℕ → List Record
whole_records zero s = []
whole_records (suc n) s = record_at s ∷ whole_records n (drop record_size s)

-- P holds of every record
abbrev pub Every : (Record → Type 0) → List Record → Type 0
Every P [] = Unit {0}
Every P (r ∷ rs) = P r × Every P rs

-- those of one depth
abbrev pub of_depth : ℕ → List Record → List Record
of_depth d [] = []
of_depth d (r ∷ rs) = cond (eqb r.depth d) (r ∷ of_depth d rs) (of_depth d rs)

-- ---- the writers' rules

abbrev pub all : List Bool → Bool
all [] = true
all (b ∷ bs) = b && all bs

-- so many of its records keep the rules before the first that breaks one; a table is refused where that is not all, or where bytes are over
abbrev pub bad_table : ℕ → List ℕ → Test
bad_table kept table = refuse (ltb kept (length table / record_size) || not (eqb (length table % record_size) 0)) (BadTable kept)

-- ---- in bytes

-- the numbers that a writer takes of a record fit their widths
abbrev pub Fits : Record → Type 0
Fits r = Fit record_layout.sizes (record_layout.numbers (bare r))

abbrev pub AllFit : List Record → Type 0
AllFit = Every Fits
