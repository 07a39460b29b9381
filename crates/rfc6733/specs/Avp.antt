-- The AVP (RFC 6733, section 4.1): its fields, its size with padding, and how it is refused.
use Rattle.std.specs.Prelude.{ℕ, ◌+◌, ◌-◌, ◌%◌, ◌^◌, ◌≡◌, Bool, true, cond, List, [], ◌∷◌, ◌++◌, length, take, drop, get_or, ltb}
use Rattle.octets.specs.Octets.{be, Field, Layout, total, fields_of, value_at}
use Rattle.refusal.specs.Answer.{Test, refuse, passes}
use Rattle.refusal.specs.declared.Refusal.TheVariants.{Incomplete, BadLength}
use Rattle.flags.specs.Flags.{bit}

-- the header; the last field is there with the vendor bit alone
pub record Head : Type 0 where
  pub code : ℕ
  pub flags : ℕ
  -- of the header and the data, and not of the padding
  pub length : ℕ
  pub vendor : ℕ

abbrev pub head_layout : Layout Head
head_layout =
    record {
      sizes = 4 ∷ 1 ∷ 3 ∷ 4 ∷ [];
      numbers = λ h. h.code ∷ h.flags ∷ h.length ∷ h.vendor ∷ [];
      made = λ ns. record { code = get_or ns 0 0; flags = get_or ns 1 0; length = get_or ns 2 0; vendor = get_or ns 3 0 };
    }

abbrev pub code : List ℕ → ℕ
code a = (value_at head_layout a).code

abbrev pub flags : List ℕ → ℕ
flags a = (value_at head_layout a).flags

abbrev pub avp_length : List ℕ → ℕ
avp_length a = (value_at head_layout a).length

-- the AVP flags, V M P and five that are reserved
abbrev pub vendor_bit : ℕ
vendor_bit = 7

abbrev pub mandatory_bit : ℕ
mandatory_bit = 6

abbrev pub protected_bit : ℕ
protected_bit = 5

abbrev pub avp_reserved : ℕ → ℕ
avp_reserved f = f % 2 ^ 5

-- the header is 8 bytes, and 12 with the vendor bit
unfoldable pub head_size : ℕ → ℕ
head_size f = cond (bit vendor_bit f) (total head_layout.sizes) (total (take 3 head_layout.sizes))

-- the fields of a header
abbrev pub head_fields : Head → List Field
head_fields h = let all = fields_of head_layout h in take 3 all ++ cond (bit vendor_bit h.flags) (drop 3 all) []

-- the vendor, and 0 without the bit
unfoldable pub vendor : List ℕ → ℕ
vendor a = cond (bit vendor_bit (flags a)) (value_at head_layout a).vendor 0

-- how many bytes of data
unfoldable pub data_size : List ℕ → ℕ
data_size a = avp_length a - head_size (flags a)

-- how many bytes of padding follow n bytes of data
unfoldable pub padding : ℕ → ℕ
padding n = (4 - n % 4) % 4

-- how many bytes in all
unfoldable pub avp_size : List ℕ → ℕ
avp_size a = avp_length a + padding (data_size a)

-- the data
unfoldable pub payload : List ℕ → List ℕ
payload a = take (data_size a) (drop (head_size (flags a)) a)

-- the padding: a number of three bytes, those past the padding being 0. Here a is the AVP's own bytes
unfoldable pub pads : List ℕ → ℕ
pads a = be 3 (drop (avp_length a) a) 0

-- the refusals of an AVP at the front of s, in order
unfoldable pub avp_refusals : List ℕ → List Test
avp_refusals s =
    refuse (ltb (length s) 4) (Incomplete (4 - length s))
    ∷ refuse (ltb (length s) 5) (Incomplete 1)
    ∷ refuse (ltb (length s) 8) (Incomplete (8 - length s))
    ∷ refuse (ltb (avp_length s) 8) BadLength
    ∷ refuse (ltb (length s) (avp_length s)) (Incomplete (avp_length s - length s))
    ∷ refuse (ltb (avp_length s) (head_size (flags s))) BadLength
    ∷ refuse (ltb (length s) (avp_size s)) (Incomplete (avp_size s - length s))
    ∷ []

-- an AVP is complete where it is not refused
unfoldable pub complete : List ℕ → Bool
complete s = passes (avp_refusals s)

-- AVPs nest at most so deep: the largest depth limit (docs/FORMAT.md, 7.1)
abbrev pub most_depth : ℕ
most_depth = 64

-- a is an AVP's own bytes, all of them
pub record Exact (a : List ℕ) : Type 0 where
  pub whole : complete a ≡ true
  pub size_is : avp_size a ≡ length a
