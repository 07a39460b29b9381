-- What measuring a table answers: the sum of its records' lengths, up to a most.
use Rattle.std.specs.Prelude.{Option, Some, None, ℕ, ◌+◌, cond, List, [], ◌∷◌, ltb}
use Rattle.record.specs.Record.{Record}

abbrev pub lengths : List Record → ℕ
lengths [] = 0
lengths (r ∷ rs) = r.length + lengths rs

abbrev pub sized_of : ℕ → List Record → Option ℕ
sized_of most rs = cond (ltb most (lengths rs)) None (Some (lengths rs))
