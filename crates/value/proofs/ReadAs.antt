-- The contracts of `Value::new` and `new_known` name one outcome: the outcome can be read back from what it shows, since a value is told
-- by its kind and its number, and an Address by the data besides.
use Prim.Native.Nat.{ℕ}
use mathlib.Core.Path.{◌≡◌, refl, sym, ap, ◌∙◌}
use mathlib.Core.List.{List, [], ◌∷◌}
use lib.ListN.{get_or}
use Rattle.record.specs.Value as values
use Rattle.address.specs.declared.IpAddr.{IpAddr}
use Rattle.address.specs.Addresses.{address_of}
use Rattle.value.specs.declared.Value.{Value}
use Rattle.value.specs.declared.Value.TheVariants.{Unhandled, OctetString, Integer32, Integer64, Unsigned32, Unsigned64, Float32, Float64, Grouped, Enumerated, UTF8String, DiameterIdentity, DiameterURI, Address, Time}
use Rattle.value.specs.declared.Read.{Read}
use Rattle.value.specs.Values.{kind_of, number_of, read_as, Shows}

-- the value of a kind and a number, or of an address
abbrev value_back : ℕ → ℕ → IpAddr → Value
value_back k n a =
    get_or (
    Unhandled n ∷ OctetString ∷ Integer32 n ∷ Integer64 n ∷ Unsigned32 n ∷ Unsigned64 n ∷ Float32 n ∷ Float64 n ∷ Grouped ∷ Enumerated n
    ∷ UTF8String ∷ DiameterIdentity ∷ DiameterURI ∷ Address a ∷ Time n ∷ []) k (Unhandled n)

value_is_back : (v : Value) (a : IpAddr) → ((b : IpAddr) → v ≡ Address b → b ≡ a) → value_back (kind_of v) (number_of v) a ≡ v
value_is_back (Unhandled n) a told = refl
value_is_back OctetString a told = refl
value_is_back (Integer32 n) a told = refl
value_is_back (Integer64 n) a told = refl
value_is_back (Unsigned32 n) a told = refl
value_is_back (Unsigned64 n) a told = refl
value_is_back (Float32 n) a told = refl
value_is_back (Float64 n) a told = refl
value_is_back Grouped a told = refl
value_is_back (Enumerated n) a told = refl
value_is_back UTF8String a told = refl
value_is_back DiameterIdentity a told = refl
value_is_back DiameterURI a told = refl
value_is_back (Address b) a told = ap Address (sym (told b refl))
value_is_back (Time n) a told = refl

abbrev read_back : values.Value → List ℕ → Read
read_back v s = record { value = value_back v.kind v.number (address_of s v.number); errors = v.errors }

read_is_back : (v : values.Value) (s : List ℕ) (r : Read) → Shows v s r → read_back v s ≡ r
unfolding read_as
read_is_back v s r h =
    let e : read_back v s ≡ record { value = r.value; errors = r.errors } =
    cc (h.value, value_is_back r.value (address_of s v.number) h.address)
    in
    e

-- two outcomes that show the same value of the same data are the same
pub one_value : (v : values.Value) (s : List ℕ) (r r' : Read) → Shows v s r → Shows v s r' → r ≡ r'
one_value v s r r' h h' = sym (read_is_back v s r h) ∙ read_is_back v s r' h'
