-- What a test says, as a statement that `simp` puts for it, so that tests which are joined come apart in one step. And a test is true
-- or false: a proof that matches on this has the equation in each case and rewrites by it, with no helper that states the goal again.
use Prim.Native.Nat.{ℕ, ◌≤◌}
use mathlib.Core.Path.{◌≡◌, refl, sym}
use mathlib.Core.Bool.{Bool, true, false, cond, not, ◌&&◌, ◌||◌}
use mathlib.Core.Logic.{◌↔◌, ◌⊎◌, inl, inr}
use lib.Dec.{leb, ltb, eqb}
use borrow.Author.Tests.{leb-true, le-leb, ltb-false, le-ltb, eqb-true, eq-eqb, not-true, not-false}
use Rattle.octets.proofs.Runs.{false_true}
use Rattle.refusal.proofs.Answers.{and-true, true_and}

pub decide : (b : Bool) → (b ≡ true) ⊎ (b ≡ false)
decide true = inl refl
decide false = inr refl

-- ---- numbers

pub le_is : (a b : ℕ) → (leb a b ≡ true) ↔ (a ≤ b)
le_is a b = (leb-true a b, le-leb a b)

pub lt_is : (a b : ℕ) → (ltb a b ≡ false) ↔ (b ≤ a)
lt_is a b = (ltb-false a b, le-ltb a b)

pub eq_is : (a b : ℕ) → (eqb a b ≡ true) ↔ (a ≡ b)
eq_is a b = (eqb-true a b, eq-eqb a b)

-- ---- tests that are joined

pub not_is : (b : Bool) → (not b ≡ true) ↔ (b ≡ false)
not_is b = (not-true b, λ e. rw e)

pub not_not_is : (b : Bool) → (not b ≡ false) ↔ (b ≡ true)
not_not_is b = (not-false b, λ e. rw e)

pub and_is : (a b : Bool) → (a && b ≡ true) ↔ ((a ≡ true) × (b ≡ true))
and_is a b = (and-true a b, λ h. true_and h.0 h.1)

pub or_is : (a b : Bool) → (a || b ≡ true) ↔ (a ≡ false → b ≡ true)
or_is true b = (λ e f. absurd (false_true (sym f)), λ h. refl)
or_is false b = (λ e f. e, λ h. h refl)

pub neither_is : (a b : Bool) → (a || b ≡ false) ↔ ((a ≡ false) × (b ≡ false))
neither_is true b = (λ e. absurd (false_true (sym e)), λ h. h.0)
neither_is false b = (λ e. (refl, e), λ h. h.1)

pub cond_is : (b x y : Bool) → (cond b x y ≡ true) ↔ ((b ≡ true → x ≡ true) × (b ≡ false → y ≡ true))
cond_is true x y = (λ e. (λ f. e, λ f. absurd (false_true (sym f))), λ h. h.0 refl)
cond_is false x y = (λ e. (λ f. absurd (false_true f), λ f. e), λ h. h.1 refl)

pub ruleset tests = (le_is, lt_is, not_is, not_not_is, and_is, or_is, neither_is, cond_is)
