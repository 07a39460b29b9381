-- What the reader's functions answer. A run is refused as the attributes of a packet are (docs/FORMAT.md, 11), in that order. Before
-- that is the run's own refusal, where a place would not fit its four bytes.
use Rattle.std.specs.Prelude.{ℕ, cond, List, ◌++◌, length, Option, Some, None}
use Rattle.octets.specs.Run.{Tree, tree, tiles, items}
use Rattle.refusal.specs.Answer.{Answer, Test, answer}
use Rattle.record.specs.Record.{Record}
use Rattle.record.specs.Refusals.{place_refusals, tile_refusals, room_refusals}
use Rattle.rfc2865.specs.Attribute.{attributes}
use Rattle.rfc2865.specs.Records.{records, errors}
use Rattle.radius_attributes.specs.declared.Counts.{Counts}

abbrev pub count_of : Tree → Option ℕ
count_of t = cond (tiles t) (Some (length (items t))) None

-- ---- the run

abbrev pub run_records : ℕ → List ℕ → List Record
run_records place s = records place (items (tree attributes s))

abbrev pub run_counts : List ℕ → Counts
run_counts s = let own = items (tree attributes s) in record { errors = errors own; records = length own }

-- by how many records there is room for, the place and the run: how its attributes are refused
abbrev pub run_refusals : ℕ → ℕ → List ℕ → List Test
run_refusals room place s = tile_refusals (tree attributes s) ++ room_refusals room (run_records place s)

abbrev pub run_answer : ℕ → ℕ → List ℕ → Answer Counts
run_answer room place s = answer (place_refusals place s ++ run_refusals room place s) (run_counts s)
