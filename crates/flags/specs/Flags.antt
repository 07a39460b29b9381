-- Bits of a flags byte, and the error flags (docs/FORMAT.md, 3), a number below 16.
use Rattle.std.specs.Prelude.{ℕ, ◌/◌, ◌%◌, ◌^◌, Bool, cond, eqb}
use Rattle.std.specs.Int.Bits.{bit_or}

-- bit k of a number, the lowest being bit 0
unfoldable pub bit : ℕ → ℕ → Bool
bit k n = eqb (n / 2 ^ k % 2) 1

-- the error flags
abbrev pub data_value : ℕ
data_value = 1

abbrev pub data_length : ℕ
data_length = 2

abbrev pub non_zero_reserved : ℕ
non_zero_reserved = 4

abbrev pub non_zero_padding : ℕ
non_zero_padding = 8

-- a flag, if it is raised
abbrev pub flag : Bool → ℕ → ℕ
flag b n = cond b n 0

-- flags joined: bit by bit, either's
unfoldable pub join : ℕ → ℕ → ℕ
join a b = bit_or a b
