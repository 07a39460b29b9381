-- What an answer of `length` says of the two numbers that it compares. There are two answers, and each follows from one way that
-- the test goes.
use Prim.Native.Nat.{ℕ, ◌-◌, ◌≤◌, ◌<◌}
use mathlib.Core.Path.{◌≡◌, refl}
use mathlib.Core.Bool.{Bool, true, false, cond}
use lib.Dec.{ltb}
use borrow.Author.Tests.{ltb-true, ltb-false}
use Rattle.std.specs.Prelude.{⊤, Result, Ok, Err}
use Rattle.octets.specs.declared.at_hand.Absent.{Absent}
use Rattle.octets.specs.AtHand.{available_of}

module _ (stated available : ℕ) where
  -- n bytes are absent
  pub record Missing (n : ℕ) : Type 0 where
    pub fewer : available < stated
    pub missing : n ≡ stated - available

  -- what an answer says
  abbrev pub Says : Result ⊤ Absent → Type 0
  Says (Ok all) = stated ≤ available
  Says (Err absent) = Missing absent.0

  by_test : (b : Bool) → ltb available stated ≡ b → Says (cond b (Err (record { 0 = stated - available })) (Ok (record {})))
  by_test true t = record { fewer = ltb-true _ _ t; missing = refl }
  by_test false t = ltb-false _ _ t

  pub says : (a : Result ⊤ Absent) → a ≡ available_of stated available → Says a
  says a e = rw e (by_test (ltb available stated) refl)

  -- each answer by itself, as it stands where the function has returned
  pub missing_of : {absent : Absent} → Err absent ≡ available_of stated available → Missing absent.0
  missing_of e = says (Err _) e

  pub at_hand_of : {all : ⊤} → Ok all ≡ available_of stated available → stated ≤ available
  at_hand_of e = says (Ok _) e
