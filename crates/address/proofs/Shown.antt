-- What an answer shows. One that is no address shows another kind, so nothing more is asked of it; an address is asked for its family
-- besides, which the length of the data tells.
use Prim.Native.Nat.{ℕ, ◌≤◌, ◌<◌}
use mathlib.Core.Path.{◌≡◌, refl, sym, ◌∙◌}
use mathlib.Core.List.{List}
use lib.ListN.{length}
use borrow.Author.Tests.{lt-ltb, le-ltb}
use Rattle.std.specs.Prelude.{Ok, Err}
use Rattle.flags.specs.Flags.{data_length}
use Rattle.record.specs.Kinds.{address, unhandled}
use Rattle.record.specs.Value.{Value, value}
use Rattle.address.specs.declared.IpAddr.{IpAddr}
use Rattle.address.specs.declared.IpAddr.TheVariants.{V4, V6}
use Rattle.address.specs.declared.NoAddress.{NoAddress}
use Rattle.address.specs.declared.NoAddress.TheVariants.{BadLength, OtherFamily}
use Rattle.address.specs.Addresses.{address_number, address_of, found_as, Finds}

module _ (s : List ℕ) {v : Value} where
  no_address : (why : NoAddress) → v ≡ found_as (Err why) → Finds v s (Err why)
  no_address why is = record { value = sym is; address = λ a e. cc }

  pub bad_length : v ≡ value unhandled data_length 0 → Finds v s (Err BadLength)
  bad_length = no_address BadLength

  pub other_family : v ≡ value unhandled 0 0 → Finds v s (Err OtherFamily)
  other_family = no_address OtherFamily

  an_address : (a : IpAddr) → v ≡ value address 0 (address_number a) → a ≡ address_of s (address_number a) → Finds v s (Ok a)
  an_address a is told = rw is (record { value = refl; address = λ b e. let same : b ≡ a = cc in same ∙ told })

  pub ipv4 : (n : ℕ) → v ≡ value address 0 n → length s < 16 → Finds v s (Ok (V4 n))
  ipv4 n is few = an_address (V4 n) is (rw (lt-ltb _ _ few))

  pub ipv6 : v ≡ value address 0 0 → 16 ≤ length s → Finds v s (Ok V6)
  ipv6 is room = an_address V6 is (rw (le-ltb _ _ room))
