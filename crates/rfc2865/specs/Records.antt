-- The records of attributes (docs/FORMAT.md, 11.3): what each kind makes of a value, and what a record has of it.
use Rattle.std.specs.Prelude.{ℕ, ◌+◌, cond, ◌||◌, List, [], ◌∷◌, length, eqb}
use Rattle.octets.specs.Octets.{be}
use Rattle.flags.specs.Flags.{data_length, join}
use Rattle.record.specs.Kinds.{unhandled, unsigned32, utf8_string, address}
use Rattle.record.specs.Value.{Value, value, text}
use Rattle.record.specs.Record.{Record}
use Rattle.record.specs.Parents.{top_level}
use Rattle.rfc2865.specs.Attribute.{head_size, code, attribute_length, payload}
use Rattle.rfc2865.specs.Types.{kind_of}

-- section 5: an address and an integer are 32 bits. Data of another length are Unhandled, and raise DataLength
unfoldable pub four_bytes : ℕ → List ℕ → Value
four_bytes k s = cond (eqb (length s) 4) (value k 0 (be 4 s 0)) (value unhandled data_length 0)

-- data read as the kind k
unfoldable pub data_as : ℕ → List ℕ → Value
data_as k s =
    cond (eqb k utf8_string) (text k s)
    (cond (eqb k address || eqb k unsigned32) (four_bytes k s)
    (value k 0 0))

unfoldable pub value_of : List ℕ → Value
value_of a = data_as (kind_of (code a)) (payload a)

-- the record of the attribute a, which stands at a place of the input
unfoldable pub record_of : ℕ → List ℕ → Record
record_of place a =
    record {
      code = code a;
      flags = 0;
      length = attribute_length a;
      vendor = 0;
      place = place + head_size;
      depth = 1;
      kind = (value_of a).kind;
      errors = (value_of a).errors;
      padding = 0;
      pads = 0;
      value = (value_of a).number;
      parent = top_level;
    }

-- those of attributes that stand one after the other, the first at a place
abbrev pub records : ℕ → List (List ℕ) → List Record
records place [] = []
records place (a ∷ more) = record_of place a ∷ records (place + length a) more

-- their error flags
abbrev pub errors : List (List ℕ) → ℕ
errors [] = 0
errors (a ∷ more) = join (value_of a).errors (errors more)
