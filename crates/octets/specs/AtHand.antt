-- The bytes of a length that are at hand.
use Rattle.std.specs.Prelude.{ℕ, ◌-◌, cond, ltb, ⊤, Result, Ok, Err}
use Rattle.octets.specs.declared.at_hand.Absent.{Absent}

-- are the bytes of a length at hand, and how many are absent?
abbrev pub available_of : ℕ → ℕ → Result ⊤ Absent
available_of length at_hand = cond (ltb at_hand length) (Err (record { 0 = length - at_hand })) (Ok (record {}))
