-- What data are by a dictionary: a value of the code as one of the definition.
use Rattle.std.specs.Prelude.{ℕ, ◌≡◌, Bool, cond, List, eqb, ⊤, Result, Ok, Err}
use Rattle.address.specs.declared.IpAddr.{IpAddr}
use Rattle.address.specs.declared.NoAddress.{NoAddress}
use Rattle.address.specs.declared.NoAddress.TheVariants.{BadLength, OtherFamily}
use Rattle.address.specs.Addresses.{address_number, address_of}
use Rattle.utf8.specs.declared.Utf8Error.{Utf8Error}
use Rattle.flags.specs.Flags.{data_value, data_length}
use Rattle.record.specs.Kinds as kinds
use Rattle.record.specs.Value as values
use Rattle.rfc6733.specs.Value.{data_as}
use Rattle.rfc6733.specs.Records.{tiling}
use Rattle.value.specs.declared.Value.{Value}
use Rattle.value.specs.declared.Value.TheVariants.{Unhandled, OctetString, Integer32, Integer64, Unsigned32, Unsigned64, Float32, Float64, Grouped, Enumerated, UTF8String, DiameterIdentity, DiameterURI, Address, Time}
use Rattle.value.specs.declared.Read.{Read}

-- the kind of a value
abbrev pub kind_of : Value → ℕ
kind_of (Unhandled n) = kinds.unhandled
kind_of OctetString = kinds.octet_string
kind_of (Integer32 n) = kinds.integer32
kind_of (Integer64 n) = kinds.integer64
kind_of (Unsigned32 n) = kinds.unsigned32
kind_of (Unsigned64 n) = kinds.unsigned64
kind_of (Float32 n) = kinds.float32
kind_of (Float64 n) = kinds.float64
kind_of Grouped = kinds.grouped
kind_of (Enumerated n) = kinds.enumerated
kind_of UTF8String = kinds.utf8_string
kind_of DiameterIdentity = kinds.diameter_identity
kind_of DiameterURI = kinds.diameter_uri
kind_of (Address a) = kinds.address
kind_of (Time n) = kinds.time

-- the number in a record's value field
abbrev pub number_of : Value → ℕ
number_of (Unhandled n) = n
number_of OctetString = 0
number_of (Integer32 n) = n
number_of (Integer64 n) = n
number_of (Unsigned32 n) = n
number_of (Unsigned64 n) = n
number_of (Float32 n) = n
number_of (Float64 n) = n
number_of Grouped = 0
number_of (Enumerated n) = n
number_of UTF8String = 0
number_of DiameterIdentity = 0
number_of DiameterURI = 0
number_of (Address a) = address_number a
number_of (Time n) = n

-- text as the check has it: the value v, or where it broke
abbrev pub text_of : Result ⊤ Utf8Error → Value → Value
text_of (Ok all) v = v
text_of (Err why) v = Unhandled why.valid_up_to

abbrev pub text_errors : Result ⊤ Utf8Error → ℕ
text_errors (Ok all) = 0
text_errors (Err why) = data_value

-- data that should be an Address, as the crate address has it: an Address or none
abbrev pub address_or_none : Result IpAddr NoAddress → Value
address_or_none (Ok a) = Address a
address_or_none (Err why) = Unhandled 0

abbrev pub address_errors : Result IpAddr NoAddress → ℕ
address_errors (Ok a) = 0
address_errors (Err BadLength) = data_length
address_errors (Err OtherFamily) = 0

-- what a value of the code shows
unfoldable pub read_as : Read → values.Value
read_as r = values.value (kind_of r.value) r.errors (number_of r.value)

-- r is the value v of the data s. Kind and number do not tell 0.0.0.0 from an IPv6 address, so that of an Address it is said which
-- address it is
pub record Shows (v : values.Value) (s : List ℕ) (r : Read) : Type 0 where
  pub value : read_as r ≡ v
  pub address : (a : IpAddr) → r.value ≡ Address a → a ≡ address_of s v.number

-- data as the kind k, an Address as a dictionary has it. Of a group it is only asked whether its members tile, which `tiles` says: their
-- flags are their own
unfoldable pub value_if : Bool → (List ℕ → values.Value) → ℕ → List ℕ → values.Value
value_if tiles as_address k s =
    cond (eqb k kinds.grouped)
    (cond tiles (values.value kinds.grouped 0 0) (values.value kinds.unhandled data_value 0))
    (data_as as_address k s)

-- the same, where a group is asked
unfoldable pub new_value : (List ℕ → values.Value) → ℕ → List ℕ → values.Value
new_value as_address k s = value_if (tiling s) as_address k s
