-- What each kind makes of an AVP's data (docs/FORMAT.md, 4.3 to 4.6, after RFC 6733, sections 4.2 and 4.3).
use Rattle.std.specs.Prelude.{ℕ, Bool, false, cond, ◌||◌, List, [], ◌∷◌, length, ltb, eqb}
use Rattle.octets.specs.Octets.{be}
use Rattle.flags.specs.Flags.{data_length, flag}
use Rattle.record.specs.Kinds.{unhandled, integer32, integer64, unsigned32, unsigned64, float32, float64, enumerated, utf8_string, diameter_identity, diameter_uri, address, time}
use Rattle.record.specs.Value.{Value, value, text}

-- a number of w bytes. Departure D3: surplus data is kept, and too little is Unhandled, each with DataLength
unfoldable pub fixed : ℕ → ℕ → List ℕ → Value
fixed w k s =
    cond (ltb (length s) w) (value unhandled data_length 0)
    (value k (flag (ltb w (length s)) data_length) (be w s 0))

-- the kinds that are numbers of 32 and of 64 bits, and those that are text. Departures D1 and D2: nothing more is asked of an identity or
-- a URI than of any text
abbrev pub kinds32 : List ℕ
kinds32 = integer32 ∷ unsigned32 ∷ float32 ∷ enumerated ∷ time ∷ []

abbrev pub kinds64 : List ℕ
kinds64 = integer64 ∷ unsigned64 ∷ float64 ∷ []

abbrev pub texts : List ℕ
texts = utf8_string ∷ diameter_identity ∷ diameter_uri ∷ []

abbrev pub one_of : ℕ → List ℕ → Bool
one_of k [] = false
one_of k (x ∷ xs) = eqb k x || one_of k xs

-- data read as the kind k, which is not Grouped. How an Address is read is a parameter
unfoldable pub data_as : (List ℕ → Value) → ℕ → List ℕ → Value
data_as as_address k s =
    cond (one_of k kinds32) (fixed 4 k s)
    (cond (one_of k kinds64) (fixed 8 k s)
    (cond (one_of k texts) (text k s)
    (cond (eqb k address) (as_address s)
    (value k 0 0))))
