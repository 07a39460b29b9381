-- `count_run` meets its contract: a limit that is allowed is the number of levels left, and what is counted of them decides among the
-- refusals in their order. Where a header is tried too deep, whether the run tiles is asked first.
use mathlib.Core.Path.{◌≡◌, sym, ◌∙◌}
use borrow.Author.Tests.{not-true, not-false}
use Rattle.octets.specs.Run.{tree, tiles}
use Rattle.rfc6733.specs.Records.{avps}
use Rattle.rfc6733.proofs.Tiling.{tiles_any}
use Rattle.attribute.specs.ByTable.{dictionary_of}
use Rattle.count.proofs.Levels.{was_deep, was_counts}
use Rattle.count.proofs.Counts.{not_allowed, not_tiled, too_deep, fits}
use Rattle.count.proofs.count_run.Goals.{After-tiles}
use Rattle.count.proofs.count_run.Goals as goal

-- does the run tile?
asked : (c : After-tiles) → tiles (tree (avps (dictionary_of c.args.d)) c.args.s.now) ≡ c.tiles.result
asked c = tiles_any _ _ ∙ sym c.tiles.ensures

pub returns-then-not-allowed : goal.returns-then-not-allowed
returns-then-not-allowed c = not_allowed _ _ (sym c.allowed.ensures ∙ c.if-not-allowed.true)

pub returns-then-not-tiles : goal.returns-then-not-tiles
returns-then-not-tiles c =
    not_tiled _ _ (sym c.allowed.ensures ∙ c.if-not-allowed.false)
    (asked (goal.at.returns-then-not-tiles c).After-tiles ∙ c.if-not-tiles.true)

pub returns-in_default : goal.returns-in_default
returns-in_default c =
    too_deep _ _ (sym c.allowed.ensures ∙ c.if-not-allowed.false)
    (asked (goal.at.returns-in_default c).After-tiles ∙ c.if-not-tiles.false)
    (was_deep _ _ c.in_default.ensures)

pub returns-then-not-level : goal.returns-then-not-level
returns-then-not-level c =
    let k = was_counts _ _ _ c.in-Some.ensures in
    not_tiled _ _ (sym c.allowed.ensures ∙ c.if-not-allowed.false) (sym k.tiles_is ∙ not-true _ c.if-not-level.true)

pub returns : goal.returns
returns c =
    let k = was_counts _ _ _ c.in-Some.ensures in
    fits _ _ (sym c.allowed.ensures ∙ c.if-not-allowed.false) (rw (not-false _ c.if-not-level.false) at k)
