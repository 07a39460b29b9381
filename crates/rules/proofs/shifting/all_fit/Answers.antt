-- `all_fit` meets its contract: the whole chunks of a table are its records.
use mathlib.Core.Path.{◌≡◌, refl, ap, ◌∙◌}
use mathlib.Core.Bool.{Bool, ◌&&◌}
use mathlib.Core.List.{List, [], ◌∷◌, map}
use Rattle.std.proofs.Common.{rules}
use Rattle.std.specs.List.{list_all}
use Rattle.std.proofs.lemmas.Iterator.Search.{all_from_yields_List}
use Rattle.record.specs.Record.{Record}
use Rattle.record.specs.Table.{all}
use Rattle.rules.specs.Shifting.{fits_shifted}
use Rattle.rules.proofs.Chunks.{records_from_chunks}
use Rattle.rules.proofs.shifting.all_fit.Goals as goal

all_same : (test : Record → Bool) (rs : List Record) → list_all test rs ≡ all (map test rs)
all_same test [] = refl
all_same test (r ∷ rs) = ap (λ (b : Bool). test r && b) (all_same test rs)

pub returns : goal.returns
returns c =
    let test = fits_shifted c.args.bytes c.args.records in
    all_from_yields_List test _ _ c.all.result c.all.ensures.ran
    (records_from_chunks c.args.table.now c.chunks_exact.ensures.rest c.chunks_exact.ensures.size)
    (λ x b q k. search rules)
    ∙ all_same test _
