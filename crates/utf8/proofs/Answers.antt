-- What an answer of `check` says of the text. There are two answers, and each follows from one way that the test goes.
use Prim.Native.Nat.{ℕ}
use mathlib.Core.Path.{◌≡◌, refl}
use mathlib.Core.Bool.{Bool, true, false, cond}
use mathlib.Core.List.{List}
use Rattle.rfc3629.specs.Utf8.{well_formed, valid_up_to}
use Rattle.utf8.specs.Checked.{checked}
use Rattle.std.specs.Prelude.{⊤, Result, Ok, Err}
use Rattle.utf8.specs.declared.Utf8Error.{Utf8Error}

module _ (s : List ℕ) where
  -- the text is valid up to n and no further
  pub record Broke (n : ℕ) : Type 0 where
    pub ill_formed : well_formed s ≡ false
    pub up_to : valid_up_to s ≡ n

  -- what an answer says
  abbrev pub Says : Result ⊤ Utf8Error → Type 0
  Says (Ok all) = well_formed s ≡ true
  Says (Err why) = Broke why.valid_up_to

  by_test : (b : Bool) → well_formed s ≡ b → Says (cond b (Ok (record {})) (Err (record { valid_up_to = valid_up_to s })))
  by_test true t = t
  by_test false t = record { ill_formed = t; up_to = refl }

  pub says : (r : Result ⊤ Utf8Error) → r ≡ checked s → Says r
  says r e = rw e (by_test (well_formed s) refl)
