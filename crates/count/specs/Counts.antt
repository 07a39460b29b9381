-- What counting a run answers: with so many levels left, and by a depth limit.
use Rattle.std.specs.Prelude.{ℕ, cond, ◌++◌, ltb, Option, Some, None}
use Rattle.octets.specs.Run.{Tree, tiles, tried, deepest}
use Rattle.refusal.specs.Answer.{Answer, answer}
use Rattle.rfc6733.specs.Records.{record_count}
use Rattle.rfc6733.specs.Decoder.{limit_refusals, depth_refusals}
use Rattle.record.specs.Refusals.{tile_refusals}
use Rattle.count.specs.declared.Level.{Level}
use Rattle.count.specs.declared.Sums.{Sums}

-- ---- the levels that are left

unfoldable pub level_of : ℕ → Tree → Option Level
level_of left t =
    cond (ltb left (deepest t)) None (Some (record { tiles = tiles t; records = record_count t; tried = tried t }))

-- ---- a run by its depth limit

abbrev pub sums : Tree → Sums
sums t = record { records = record_count t; tried = tried t }

-- the limit's refusal, and then those that a run has of its headers alone
unfoldable pub count_of : ℕ → Tree → Answer Sums
count_of limit t = answer (limit_refusals limit ++ (tile_refusals t ++ depth_refusals limit t)) (sums t)
