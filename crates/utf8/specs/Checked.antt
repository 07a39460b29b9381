-- What the check answers: well-formed, or the length of the longest prefix that is.
use Rattle.std.specs.Prelude.{ℕ, cond, List, ⊤, Result, Ok, Err}
use Rattle.rfc3629.specs.Utf8.{well_formed, valid_up_to}
use Rattle.utf8.specs.declared.Utf8Error.{Utf8Error}

abbrev pub checked : List ℕ → Result ⊤ Utf8Error
checked s = cond (well_formed s) (Ok (record {})) (Err (record { valid_up_to = valid_up_to s }))
