-- The contracts of `bare` and `after_family` name one outcome: an answer can be read back from the value that it shows, and an Address
-- from the data besides.
use mathlib.Core.Path.{◌≡◌, refl, sym, ap, ◌∙◌}
use mathlib.Core.Bool.{cond}
use Prim.Native.Nat.{ℕ}
use mathlib.Core.List.{List}
use lib.Dec.{eqb}
use Rattle.std.specs.Prelude.{Result, Ok, Err}
use Rattle.record.specs.Kinds.{address}
use Rattle.record.specs.Value.{Value}
use Rattle.address.specs.declared.IpAddr.{IpAddr}
use Rattle.address.specs.declared.NoAddress.{NoAddress}
use Rattle.address.specs.declared.NoAddress.TheVariants.{BadLength, OtherFamily}
use Rattle.address.specs.Addresses.{address_of, found_as, Finds}

-- the answer that shows v, where a is the address
abbrev back : Value → IpAddr → Result IpAddr NoAddress
back v a = cond (eqb v.kind address) (Ok a) (Err (cond (eqb v.errors 0) OtherFamily BadLength))

is_back : (r : Result IpAddr NoAddress) (a : IpAddr) → ((b : IpAddr) → r ≡ Ok b → b ≡ a) → back (found_as r) a ≡ r
is_back (Ok b) a told = ap (λ (c : IpAddr). Ok c) (sym (told b refl))
is_back (Err BadLength) a told = refl
is_back (Err OtherFamily) a told = refl

found_is_back : (v : Value) (s : List ℕ) (r : Result IpAddr NoAddress) → Finds v s r → back v (address_of s v.number) ≡ r
found_is_back v s r h =
    ap (λ (w : Value). back w (address_of s v.number)) (sym h.value) ∙ is_back r (address_of s v.number) h.address

-- two answers that show the same value of the same data are the same
pub one_found : (v : Value) (s : List ℕ) (r r' : Result IpAddr NoAddress) → Finds v s r → Finds v s r' → r ≡ r'
one_found v s r r' h h' = sym (found_is_back v s r h) ∙ found_is_back v s r' h'
