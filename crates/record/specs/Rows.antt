-- Tables of codes with their kinds, as an RFC lists them; and a function of numbers as a table, as code has it.
use Rattle.std.specs.Prelude.{ℕ, zero, suc, cond, List, [], ◌∷◌, eqb}
use Rattle.record.specs.Kinds.{unhandled}

-- a row: a code and its kind
pub record Row : Type 0 where
  pub code : ℕ
  pub kind : ℕ

abbrev pub row : ℕ → ℕ → Row
row c k = record { code = c; kind = k }

-- the kind of the first row that has the code; Unhandled where none has
abbrev pub kind_in : List Row → ℕ → ℕ
kind_in [] c = unhandled
kind_in (r ∷ rs) c = cond (eqb c r.code) r.kind (kind_in rs c)

-- f at 0, 1 and so on, n values in all
abbrev pub table : {A : Type 0} → (ℕ → A) → ℕ → List A
table f zero = []
table f (suc n) = f 0 ∷ table (λ k. f (suc k)) n
