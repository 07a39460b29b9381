-- One of several numbers, as a `match` tells it, is one of them by the test, and none of them is none; the default of a match is none
-- of those before it. Each is an induction over the list.
use Prim.Native.Nat.{ℕ}
use mathlib.Core.Path.{◌≡◌, refl, sym}
use mathlib.Core.Bool.{Bool, true, false, cond, ◌||◌, or_assoc, or-true}
use mathlib.Core.List.{List, [], ◌∷◌, ◌++◌}
use mathlib.Core.Logic.{inl, inr}
use types.Run.{OneOf}
use lib.Dec.{eqb}
use borrow.Author.Tests.{eqb-true, eq-eqb, ne_eqb}
use Rattle.refusal.proofs.Tests.{decide}
use Rattle.octets.proofs.Runs.{false_true}
use Rattle.rfc6733.specs.Value.{one_of}

pub one_of_lem : (ks : List ℕ) (k : ℕ) → OneOf ks k → one_of k ks ≡ true
one_of_lem [] k h = absurd h
one_of_lem (x ∷ []) k h = rw (eq-eqb k x h)
one_of_lem (x ∷ y ∷ ks) k (inl e) = rw (eq-eqb k x e)
one_of_lem (x ∷ y ∷ ks) k (inr h) = rw (one_of_lem (y ∷ ks) k h) (or-true (eqb k x))

pub none_of : (ks : List ℕ) (k : ℕ) → (OneOf ks k → ⊥) → one_of k ks ≡ false
none_of [] k h = refl
none_of (x ∷ []) k h = rw (ne_eqb k x h)
none_of (x ∷ y ∷ ks) k h = rw (ne_eqb k x (λ e. h (inl e))) (none_of (y ∷ ks) k (λ o. h (inr o)))

-- P holds of each number of a list,
abbrev pub Each : (ℕ → Type 0) → List ℕ → Type 0
Each P [] = Unit {0}
Each P (x ∷ xs) = P x × Each P xs

-- and so of any one of them
pub of_listed : (P : ℕ → Type 0) (ks : List ℕ) → Each P ks → (k : ℕ) → one_of k ks ≡ true → P k
of_listed P [] all k h = absurd (false_true h)
of_listed P (x ∷ ks) all k h =
    elim (decide (eqb k x)) [ inl e ↦ rw (eqb-true k x e) all.0 | inr e ↦ of_listed P ks all.1 k (rw e at h) ]

pub one_of_append : (k : ℕ) (xs ys : List ℕ) → one_of k (xs ++ ys) ≡ one_of k xs || one_of k ys
one_of_append k [] ys = refl
one_of_append k (x ∷ xs) ys = rw (one_of_append k xs ys, or_assoc)

-- a row of a table that isn't the number's is passed
pub passed : {A : Type 0} (here later : Bool) (x rest none : A) → here || later ≡ false → (later ≡ false → rest ≡ none)
    → cond here x rest ≡ none
passed true later x rest none h off = absurd (false_true (sym h))
passed false later x rest none h off = off h

-- ---- the default of a match

-- what it knows: what was known before, and that k is none of the numbers listed
abbrev pub Unlisted : Type 0 → ℕ → List ℕ → Type 0
Unlisted known k [] = known
Unlisted known k (x ∷ xs) = Unlisted (known × (k ≡ x → ⊥)) k xs

pub unlisted : (k : ℕ) (xs : List ℕ) → Unlisted (Unit {0}) k xs → one_of k xs ≡ false
unlisted k xs u = (by (Unit {0}) xs u).1
  where
    by : (known : Type 0) (xs : List ℕ) → Unlisted known k xs → known × (one_of k xs ≡ false)
    by known [] u = (u, refl)
    by known (x ∷ xs) u = let rest = by (known × (k ≡ x → ⊥)) xs u in (rest.0.0, rw (ne_eqb k x rest.0.1) rest.1)
