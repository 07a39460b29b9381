-- How a run is refused, whatever its items are.
use Rattle.std.specs.Prelude.{ℕ, ◌+◌, not, List, [], ◌∷◌, length, ltb}
use Rattle.octets.specs.Run.{Tree, tiles}
use Rattle.refusal.specs.Answer.{Test, refuse}
use Rattle.refusal.specs.declared.Refusal.TheVariants.{NotTiled, NoRecords, TooLong}
use Rattle.record.specs.Record.{Record, last_place}

-- where it ends past the last place of a record
abbrev pub place_refusals : ℕ → List ℕ → List Test
place_refusals place s = refuse (ltb last_place (place + length s)) TooLong ∷ []

-- where it does not tile
abbrev pub tile_refusals : Tree → List Test
tile_refusals t = refuse (not (tiles t)) NotTiled ∷ []

-- where it has more records than there is room for
abbrev pub room_refusals : ℕ → List Record → List Test
room_refusals room rs = refuse (ltb room (length rs)) (NoRecords (length rs)) ∷ []
