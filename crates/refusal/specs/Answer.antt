-- The answers (docs/FORMAT.md, 7): an acceptance with what it returns, or a refusal.
use Rattle.std.specs.Prelude.{Bool, true, cond, not, ◌&&◌, List, [], ◌∷◌, Result, Ok, Err}
use Rattle.refusal.specs.declared.Refusal as declared

-- a refusal is one of the enum of refusal/src/lib.rt
abbrev pub Refusal : Type 0
Refusal = declared.Refusal

-- A is what an acceptance returns.
pub data Answer (A : Type 0) : Type 0 where
  accepted : A → Answer A
  refused : Refusal → Answer A

-- what a function of the code returns, as an answer: of an acceptance what f shows
abbrev pub answer_by : {X A : Type 0} → (X → A) → Result X Refusal → Answer A
answer_by f (Ok x) = accepted (f x)
answer_by f (Err why) = refused why

abbrev pub answer_of : {A : Type 0} → Result A Refusal → Answer A
answer_of r = answer_by (λ x. x) r

-- A test: does it refuse, and how?
pub record Test : Type 0 where
  pub given : Bool
  pub refusal : Refusal

abbrev pub refuse : Bool → Refusal → Test
refuse b r = record { given = b; refusal = r }

-- the refusal of the first test that refuses, of those in order; and else the acceptance
abbrev pub answer : {A : Type 0} → List Test → A → Answer A
answer [] x = accepted x
answer (t ∷ ts) x = cond t.given (refused t.refusal) (answer ts x)

-- none of them refuses
abbrev pub passes : List Test → Bool
passes [] = true
passes (t ∷ ts) = not t.given && passes ts
