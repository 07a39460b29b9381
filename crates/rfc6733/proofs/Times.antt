-- Times go round: they count on from 2 ^ 31, past 2 ^ 32 - 1 to 0 and on to 2 ^ 31 - 1. The Unix seconds of a Time are those of the first and
-- as many more as it is steps from there. So the next has one more, no two have the same, and all lie between the first and the last.
use Prim.Native.Nat.{ℕ, suc, ◌+◌, ◌-◌, ◌%◌, ◌^◌, ◌≤◌, ◌<◌}
use mathlib.Core.Path.{◌≡◌, sym, ap, ◌∙◌}
use mathlib.Core.Logic.{inl, inr, ◌≢◌}
use native.Mathlib.Omega.{arith}
use lib.Dec.{ltb, le→leb}
use lib.IntN.{ℤ, pos, negsuc, neg_ℤ, nat_abs, ◌+ℤ◌, ◌-ℤ◌, suc_ℤ-+ℤ, +ℤ_one, +ℤ_assoc, +ℤ-neg_ℤ_cancel}
use lib.Signed.{◌≤ℤ◌}
use borrow.Author.Tests.{ltb-true, ltb-false}
use Rattle.refusal.proofs.Tests.{decide}
use Rattle.rfc6733.specs.Signed.{unix_seconds}

-- 1968-01-20 03:14:08 and 2104-02-26 09:42:23 UTC
abbrev pub earliest : ℤ
earliest = neg_ℤ (pos 61505152)

abbrev pub latest : ℤ
latest = pos 4233462143

-- ---- a number added to a negative one

module _ (t n : ℕ) where
  adding_grows : negsuc n ≤ℤ (pos t +ℤ negsuc n)
  adding_grows =
      elim (decide (ltb t (suc n))) [
        | inl e ↦ rw e (record { le = le→leb (suc n - suc t) n (omega arith) })
        | inr e ↦ rw e (record { le = tt })
      ]

  adding_within : (m : ℕ) → t ≤ m + suc n → (pos t +ℤ negsuc n) ≤ℤ pos m
  adding_within m h =
      elim (decide (ltb t (suc n))) [
        | inl e ↦ rw e (record { le = tt })
        | inr e ↦ rw e (record { le = le→leb (t - suc n) m (omega arith) })
      ]

-- ---- the round

-- how many steps a Time is from the first
abbrev steps : ℕ → ℕ
steps v = (v + 2 ^ 31) % 2 ^ 32

module _ (v : ℕ) (small : v < 2 ^ 32) where
  from_the_first : unix_seconds v ≡ pos (steps v) +ℤ earliest
  unfolding unix_seconds
  from_the_first =
      elim (decide (ltb v (2 ^ 31))) [
        | inl e ↦
            let on : steps v ≡ v + 2 ^ 31 = omega (arith, ltb-true v (2 ^ 31) e) in
            rw (e, on) (sym (+ℤ_assoc (pos v) (pos (2 ^ 31)) earliest))
        | inr e ↦
            let on : v ≡ steps v + 2 ^ 31 = omega (arith, ltb-false v (2 ^ 31) e) in
            let start = earliest -ℤ pos (2 ^ 31) in
            rw e (ap (λ (n : ℕ). pos n +ℤ start) on ∙ +ℤ_assoc (pos (steps v)) (pos (2 ^ 31)) start)
      ]

  steps_back : steps (steps v) ≡ v
  steps_back = omega arith

  one_step_more : v ≢ 2 ^ 31 - 1 → steps ((v + 1) % 2 ^ 32) ≡ suc (steps v)
  one_step_more not_last = omega (arith, not_last)

-- ---- the laws

module _ (v : ℕ) (small : v < 2 ^ 32) where
  pub not_before_1968 : earliest ≤ℤ unix_seconds v
  not_before_1968 = rw (from_the_first v small) (adding_grows (steps v) 61505151)

  pub not_after_2104 : unix_seconds v ≤ℤ latest
  not_after_2104 = rw (from_the_first v small) (adding_within (steps v) 61505151 4233462143 (omega arith))

  -- in 2036 too, where 0 comes after 2 ^ 32 - 1; the last alone has none after it
  pub a_second_on : v ≢ 2 ^ 31 - 1 → unix_seconds ((v + 1) % 2 ^ 32) ≡ unix_seconds v +ℤ pos 1
  a_second_on not_last =
      from_the_first ((v + 1) % 2 ^ 32) (omega arith)
      ∙ ap (λ (t : ℕ). pos t +ℤ earliest) (one_step_more v small not_last)
      ∙ suc_ℤ-+ℤ (pos (steps v)) earliest
      ∙ sym (ap (λ (z : ℤ). z +ℤ pos 1) (from_the_first v small) ∙ +ℤ_one (pos (steps v) +ℤ earliest))

pub no_two_alike : (v w : ℕ) → v < 2 ^ 32 → w < 2 ^ 32 → unix_seconds v ≡ unix_seconds w → v ≡ w
no_two_alike v w hv hw same = sym (steps_back v hv) ∙ ap steps (ap nat_abs as_far) ∙ steps_back w hw
  where
    as_far : pos (steps v) ≡ pos (steps w)
    as_far =
        sym (+ℤ-neg_ℤ_cancel (pos (steps v)) earliest)
        ∙ ap (λ (z : ℤ). z -ℤ earliest) (sym (from_the_first v hv) ∙ same ∙ from_the_first w hw)
        ∙ +ℤ-neg_ℤ_cancel (pos (steps w)) earliest
