-- A function of numbers as a table of its first values: an entry is the function's value, by induction over the size of the table. So
-- is the kind of a code, where the table goes past the codes that are listed: there a code is Unhandled in both.
use Prim.Native.Nat.compare
use Prim.Native.Nat.{ℕ, zero, suc, max, ◌≤◌, ◌<◌}
use mathlib.Core.Path.{◌≡◌, refl, ◌∙◌}
use mathlib.Core.Bool.{Bool, true, false, cond}
use mathlib.Core.List.{List, [], ◌∷◌, map}
use native.Mathlib.Omega.{arith}
use lib.ListN.{get_or}
use lib.Dec.{ltb, eqb}
use borrow.Author.Tests.{lt-ltb, le-ltb, ltb-false, ne_eqb}
use Rattle.record.specs.Kinds.{unhandled}
use Rattle.record.specs.Rows.{Row, kind_in, table}

-- an entry of the table, and d past it
pub table_at : (f : ℕ → ℕ) (n k d : ℕ) → get_or (table f n) k d ≡ cond (ltb k n) (f k) d
table_at f zero k d = rw (le-ltb k 0 (omega arith))
table_at f (suc n) zero d = rw (lt-ltb 0 (suc n) (omega arith))
table_at f (suc n) (suc k) d = rw compare.suc-suc (table_at (λ k. f (suc k)) n k d)

-- ---- past the codes of a list of rows

abbrev pub codes_in : List Row → List ℕ
codes_in = map (λ r. r.code)

abbrev pub greatest : List ℕ → ℕ
greatest [] = 0
greatest (c ∷ cs) = max c (greatest cs)

past_rows : (rs : List Row) (c : ℕ) → greatest (codes_in rs) < c → kind_in rs c ≡ unhandled
past_rows [] c h = refl
past_rows (r ∷ rs) c h = rw (ne_eqb c r.code (λ e. omega arith)) (past_rows rs c (omega arith))

-- so the first n entries are all kinds, where n is past the codes
pub entry_of : (rs : List Row) (n : ℕ) → greatest (codes_in rs) < n → (c : ℕ) → get_or (table (kind_in rs) n) c unhandled ≡ kind_in rs c
entry_of rs n within c = table_at (kind_in rs) n c unhandled ∙ by (ltb c n) refl
  where
    by : (b : Bool) → ltb c n ≡ b → cond b (kind_in rs c) unhandled ≡ kind_in rs c
    by true t = refl
    by false t = let past = ltb-false c n t in rw (past_rows rs c (omega arith))

-- ---- the greatest kind

abbrev pub greatest_kind : List Row → ℕ
greatest_kind rs = greatest (map (λ r. r.kind) rs)

pub kind_within : (rs : List Row) (c : ℕ) → kind_in rs c ≤ greatest_kind rs
kind_within [] c = omega arith
kind_within (r ∷ rs) c = by (eqb c r.code) (kind_within rs c)
  where
    by : (b : Bool) → kind_in rs c ≤ greatest_kind rs → cond b r.kind (kind_in rs c) ≤ max r.kind (greatest_kind rs)
    by true h = omega arith
    by false h = omega arith
