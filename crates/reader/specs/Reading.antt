-- What a reader answers that stands at a place of a payload (docs/FORMAT.md, 7.8).
use Rattle.std.specs.Prelude.{ℕ, ◌≡◌}
use Rattle.steps.specs.declared.Step.{Step}
use Rattle.steps.specs.declared.Stepped.{Stepped}
use Rattle.steps.specs.Steps.{step_at, find_at}
use Rattle.reader.specs.declared.Reader.{Reader}

-- a step of a reader, and a search for a code
abbrev pub step_of : Reader → Stepped
step_of r = step_at r.payload.now r.place

abbrev pub find_of : ℕ → Reader → Stepped
find_of code r = find_at code r.payload.now r.place

-- the same payload, at another place
abbrev pub placed : Reader → ℕ → Reader
placed r n = record { payload = r.payload; place = n }

-- the answer is r, and the reader stands where it then does
pub record Went (before : Reader) (s : Stepped) (r : Step) (after : Reader) : Type 0 where
  pub found_is : r ≡ s.found
  pub reader_is : after ≡ placed before s.place
