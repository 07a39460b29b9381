-- The attribute (RFC 2865, section 5): its type, its length and its value; and attributes as items of a run.
use Rattle.std.specs.Prelude.{ℕ, ◌-◌, Bool, false, ◌&&◌, List, [], ◌∷◌, length, take, drop, get_or, leb}
use Rattle.octets.specs.Octets.{Layout, total, value_at}
use Rattle.octets.specs.Run.{Format}

pub record Head : Type 0 where
  pub code : ℕ
  -- of type, length and value
  pub length : ℕ

abbrev pub head_layout : Layout Head
head_layout =
    record {
      sizes = 1 ∷ 1 ∷ [];
      numbers = λ h. h.code ∷ h.length ∷ [];
      made = λ ns. record { code = get_or ns 0 0; length = get_or ns 1 0 };
    }

abbrev pub head_size : ℕ
head_size = total head_layout.sizes

-- the type, which a record has as its code
abbrev pub code : List ℕ → ℕ
code a = (value_at head_layout a).code

abbrev pub attribute_length : List ℕ → ℕ
attribute_length a = (value_at head_layout a).length

-- the largest length, of 8 bits
abbrev pub most_length : ℕ
most_length = 255

-- the value, of zero or more bytes
unfoldable pub payload : List ℕ → List ℕ
payload a = take (attribute_length a - head_size) (drop head_size a)

-- An attribute is complete where its length covers its header and is there. A byte that is absent counts as 0, so one byte left over is none.
unfoldable pub complete : List ℕ → Bool
complete s = leb head_size (attribute_length s) && leb (attribute_length s) (length s)

-- none has others inside
abbrev pub attributes : Format
attributes = record { complete = complete; size = attribute_length; nested = λ a. false; payload = payload }
