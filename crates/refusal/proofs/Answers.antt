-- An acceptance is given exactly where no refusal is, and returns what it was to return.
use Prim.Native.Nat.{ℕ, ◌≤◌}
use mathlib.Core.Path.{◌≡◌, refl, sym, ap, ◌∙◌}
use mathlib.Core.Bool.{Bool, true, false, cond, not, ◌&&◌, ◌||◌}
use mathlib.Core.List.{List, [], ◌∷◌, ◌++◌, append-nil}
use native.Mathlib.Omega.{arith}
use lib.Dec.{leb, ltb, eqb}
use borrow.Author.Tests.{leb-true, ltb-false, eq-eqb, not-true, not-false}
use Rattle.octets.proofs.Runs.{false_true}
use Rattle.refusal.specs.Answer.{Refusal, Answer, accepted, refused, Test, answer, passes}
use Rattle.refusal.specs.Refusals.{number_of}

pub not_accepted : {A : Type 0} {why : Refusal} {x : A} → refused why ≡ accepted x → ⊥
not_accepted e = let z : ◌≡◌ {A = ℕ} 0 1 = cc in omega arith

-- both of two tests
pub and-true : (a b : Bool) → a && b ≡ true → (a ≡ true) × (b ≡ true)
and-true true b e = (refl, e)
and-true false b e = absurd (false_true e)

pub true_and : {a b : Bool} → a ≡ true → b ≡ true → a && b ≡ true
true_and e f = rw (e, f)

-- a test that did not refuse
pub kept_lt : (m n : ℕ) → not (ltb m n) ≡ true → n ≤ m
kept_lt m n e = ltb-false m n (not-true (ltb m n) e)

pub kept_not : (b : Bool) → not (not b) ≡ true → b ≡ true
kept_not b e = not-false b (not-true (not b) e)

module _ {A : Type 0} where
  pub passed : (rs : List Test) (x y : A) → answer rs x ≡ accepted y → (passes rs ≡ true) × (x ≡ y)
  passed [] x y e = (refl, cc)
  passed (r ∷ rs) x y e = by r.given (passed rs x y) e
    where
      by : (b : Bool) → (answer rs x ≡ accepted y → (passes rs ≡ true) × (x ≡ y))
          → cond b (refused r.refusal) (answer rs x) ≡ accepted y → (not b && passes rs ≡ true) × (x ≡ y)
      by true rest f = absurd (not_accepted f)
      by false rest f = rest f

  pub accepts : (rs : List Test) (x : A) → passes rs ≡ true → answer rs x ≡ accepted x
  accepts [] x e = refl
  accepts (r ∷ rs) x e = by r.given (accepts rs x) e
    where
      by : (b : Bool) → (passes rs ≡ true → answer rs x ≡ accepted x) → not b && passes rs ≡ true
          → cond b (refused r.refusal) (answer rs x) ≡ accepted x
      by true rest f = absurd (false_true f)
      by false rest f = rest f

pub passes_append : (rs ts : List Test) → passes (rs ++ ts) ≡ passes rs && passes ts
passes_append [] ts = refl
passes_append (r ∷ rs) ts = by r.given (passes_append rs ts)
  where
    by : (b : Bool) → passes (rs ++ ts) ≡ passes rs && passes ts → not b && passes (rs ++ ts) ≡ not b && passes rs && passes ts
    by true rest = refl
    by false rest = rest

-- ---- refusals before others

pub answer_past : {A : Type 0} (rs ts : List Test) (x : A) → passes rs ≡ true → answer (rs ++ ts) x ≡ answer ts x
answer_past [] ts x e = refl
answer_past (r ∷ rs) ts x e = by r.given (answer_past rs ts x) e
  where
    by : (b : Bool) → (passes rs ≡ true → answer (rs ++ ts) x ≡ answer ts x) → not b && passes rs ≡ true
        → cond b (refused r.refusal) (answer (rs ++ ts) x) ≡ answer ts x
    by true rest f = absurd (false_true f)
    by false rest f = rest f

-- what was refused before is refused with any others after
pub answer_first : {A B : Type 0} (rs ts : List Test) (x : A) (y : B) (why : Refusal) → answer rs x ≡ refused why → answer (rs ++ ts) y ≡ refused why
answer_first [] ts x y why e = absurd (not_accepted (sym e))
answer_first (r ∷ rs) ts x y why e = by r.given (answer_first rs ts x y why) e
  where
    by : (b : Bool) → (answer rs x ≡ refused why → answer (rs ++ ts) y ≡ refused why)
        → cond b (refused r.refusal) (answer rs x) ≡ refused why
        → cond b (refused r.refusal) (answer (rs ++ ts) y) ≡ refused why
    by true rest f = cc
    by false rest f = rest f

-- the same refusals give the same refusal, whatever an acceptance were to return
pub answer_alike : {A B : Type 0} (rs : List Test) (x : A) (y : B) (why : Refusal) → answer rs x ≡ refused why → answer rs y ≡ refused why
answer_alike rs x y why e = ap (λ (ts : List Test). answer ts y) (sym (append-nil rs)) ∙ answer_first rs [] x y why e

-- where some of them refuse, what comes after does not count
pub answer_before : {A B : Type 0} (rs ts us : List Test) (x : A) (y : B) (why : Refusal) → passes rs ≡ false
    → answer (rs ++ ts) x ≡ refused why → answer (rs ++ us) y ≡ refused why
answer_before [] ts us x y why e f = absurd (false_true (sym e))
answer_before (r ∷ rs) ts us x y why e f = by r.given (answer_before rs ts us x y why) e f
  where
    by : (b : Bool) → (passes rs ≡ false → answer (rs ++ ts) x ≡ refused why → answer (rs ++ us) y ≡ refused why)
        → not b && passes rs ≡ false → cond b (refused r.refusal) (answer (rs ++ ts) x) ≡ refused why
        → cond b (refused r.refusal) (answer (rs ++ us) y) ≡ refused why
    by true rest e f = cc
    by false rest e f = rest e f

-- has one of them this refusal? It is told by its number
abbrev pub among : Refusal → List Test → Bool
among why [] = false
among why (t ∷ ts) = eqb (number_of t.refusal) (number_of why) || among why ts

-- where none has it and it is given, a later one gives it
pub answer_later : {A : Type 0} (rs ts : List Test) (x : A) (why : Refusal) → among why rs ≡ false → answer (rs ++ ts) x ≡ refused why
    → (passes rs ≡ true) × (answer ts x ≡ refused why)
answer_later [] ts x why o e = (refl, e)
answer_later {A} (r ∷ rs) ts x why o e = by (eqb (number_of r.refusal) (number_of why)) refl r.given (answer_later rs ts x why) o e
  where
    other : eqb (number_of r.refusal) (number_of why) ≡ false → ◌≡◌ {A = Answer A} (refused r.refusal) (refused why) → ⊥
    other h f = let same : r.refusal ≡ why = cc in false_true (sym h ∙ eq-eqb _ _ (ap number_of same))

    by : (q : Bool) → eqb (number_of r.refusal) (number_of why) ≡ q → (b : Bool)
        → (among why rs ≡ false → answer (rs ++ ts) x ≡ refused why → (passes rs ≡ true) × (answer ts x ≡ refused why))
        → q || among why rs ≡ false → cond b (refused r.refusal) (answer (rs ++ ts) x) ≡ refused why
        → (not b && passes rs ≡ true) × (answer ts x ≡ refused why)
    by true h b rest o f = absurd (false_true (sym o))
    by false h true rest o f = absurd (other h f)
    by false h false rest o f = rest o f

-- a refusal that none has is not given
pub not_among : {A : Type 0} (rs : List Test) (x : A) (why : Refusal) → among why rs ≡ false → answer rs x ≡ refused why → ⊥
not_among rs x why o e =
    not_accepted (sym (answer_later rs [] x why o (ap (λ (ts : List Test). answer ts x) (append-nil rs) ∙ e)).1)

-- ---- by number

-- the numbers of their refusals are at most k
abbrev pub within : ℕ → List Test → Bool
within k [] = true
within k (t ∷ ts) = leb (number_of t.refusal) k && within k ts

-- so is that of the one that is given
pub number_within : {A : Type 0} (k : ℕ) (ts : List Test) (x : A) (why : Refusal) → within k ts ≡ true → answer ts x ≡ refused why → number_of why ≤ k
number_within k [] x why o e = absurd (not_accepted (sym e))
number_within {A} k (t ∷ ts) x why o e =
    let both = and-true (leb (number_of t.refusal) k) (within k ts) o in
    by t.given (leb-true _ _ both.0) (number_within k ts x why both.1) e
  where
    by : (b : Bool) → number_of t.refusal ≤ k → (answer ts x ≡ refused why → number_of why ≤ k)
        → ◌≡◌ {A = Answer A} (cond b (refused t.refusal) (answer ts x)) (refused why) → number_of why ≤ k
    by true h rest f = let same : t.refusal ≡ why = cc in rw (← same) h
    by false h rest f = rest f
