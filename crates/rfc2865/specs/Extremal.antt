-- The packets with the most attributes for their length: k attributes with no value.
use Rattle.std.specs.Prelude.{ℕ, zero, suc, List, [], ◌∷◌, ◌++◌, replicate}
use Rattle.rfc2865.specs.Packet.{authenticator_size}
use Rattle.rfc2865.specs.Writer.{packet_bytes}

-- a User-Name of no bytes
abbrev pub empty : List ℕ
empty = 1 ∷ 2 ∷ []

abbrev pub empties : ℕ → List ℕ
empties zero = []
empties (suc k) = empty ++ empties k

unfoldable pub extremal : ℕ → List ℕ
extremal k = packet_bytes (record { code = 4; identifier = 0; authenticator = replicate authenticator_size 0 }) (empties k)
