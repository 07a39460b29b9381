-- What data that should be an Address are: an answer of the code as a value of the definition.
use Rattle.std.specs.Prelude.{ℕ, ◌≡◌, cond, List, length, ltb, Result, Ok, Err}
use Rattle.flags.specs.Flags.{data_length}
use Rattle.record.specs.Kinds as kinds
use Rattle.record.specs.Value.{Value, value}
use Rattle.address.specs.declared.IpAddr.{IpAddr}
use Rattle.address.specs.declared.IpAddr.TheVariants.{V4, V6}
use Rattle.address.specs.declared.NoAddress.{NoAddress}
use Rattle.address.specs.declared.NoAddress.TheVariants.{BadLength, OtherFamily}

-- an IPv4 address is a number; an IPv6 address stays in the input
abbrev pub address_number : IpAddr → ℕ
address_number (V4 n) = n
address_number V6 = 0

-- an IPv6 address takes 16 bytes. Fewer hold an IPv4 address, whose number is n
abbrev pub address_of : List ℕ → ℕ → IpAddr
address_of s n = cond (ltb (length s) 16) (V4 n) V6

-- what an answer of the code shows
abbrev pub found_as : Result IpAddr NoAddress → Value
found_as (Ok a) = value kinds.address 0 (address_number a)
found_as (Err BadLength) = value kinds.unhandled data_length 0
found_as (Err OtherFamily) = value kinds.unhandled 0 0

-- r is the value v of the data s. Kind and number do not tell 0.0.0.0 from an IPv6 address, so that of an Address it is said which
-- address it is
pub record Finds (v : Value) (s : List ℕ) (r : Result IpAddr NoAddress) : Type 0 where
  pub value : found_as r ≡ v
  pub address : (a : IpAddr) → r ≡ Ok a → a ≡ address_of s v.number
