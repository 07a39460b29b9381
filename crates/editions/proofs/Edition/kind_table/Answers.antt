-- `kind_table` meets its contract: the RFC reading's table with the blocks over it is computed, entry by entry, and is
-- the edition's.
use Rattle.std.proofs.Common.{◌≡◌, ℕ, ◌+◌, List, ◌++◌, length, drop, replicate, refl, sym, ap, ◌∙◌, arith}
use mathlib.Core.Path.{ap₂}
use borrow.Rule.Slice.PartMut.{put_mid}
use Rattle.rfc6733.specs.Dictionary.{rfc}
use Rattle.rfc6733.specs.CreditControl.{avps4006, rfc4006, rfc8506}
use Rattle.record.specs.Rows.{Row, kind_in, table}
use Rattle.attribute.specs.Attributes as base
use Rattle.attribute.specs.declared.Reading.TheVariants.{Rfc}
use Rattle.editions.specs.declared.Edition.TheVariants.{Rfc4006}
use Rattle.editions.specs.Editions.{dictionary, kind_table}
use Rattle.editions.proofs.Edition.kind_table.Goals as goal
use Rattle.editions.proofs.Edition.kind_table.Goals.{After-copy_from_slice-2}

-- the kinds of n codes of a table, from the first on
abbrev block : List Row → ℕ → ℕ → List ℕ
block rs first n = table (λ c. kind_in rs (first + c)) n

-- the RFC reading's kinds, Unhandled past them, and the first block over them, are the kinds of the older edition
older : {kinds first : List ℕ} → kinds ≡ base.kind_table Rfc → first ≡ block avps4006 411 51
    → put_mid 411 51 (kinds ++ drop 512 (replicate 670 0)) first ≡ kind_table Rfc4006
unfolding base.kind_table base.dictionary rfc kind_table dictionary rfc4006
older a c = rw (a, c) refl

-- so they are at the test
at_the_test : (c : After-copy_from_slice-2)
    → put_mid 411 51 (c.copy_from_slice.new.self ++ drop 512 (replicate 670 0)) c.copy_from_slice-2.new.self
    ≡ kind_table Rfc4006
at_the_test c = older (c.copy_from_slice.ensures.after ∙ c.kind_table-base.ensures) c.copy_from_slice-2.ensures.after

pub returns-in_default : goal.returns-in_default
returns-in_default c =
    let place = goal.at.returns-in_default c in
    at_the_test place.After-copy_from_slice-2 ∙ ap kind_table (sym c.in_default.is)

pub slice_bounds-kinds-end-in-Rfc8506 : goal.slice_bounds-kinds-end-in-Rfc8506
unfolding kind_table
slice_bounds-kinds-end-in-Rfc8506 c =
    let place = goal.at.slice_bounds-kinds-end-in-Rfc8506 c in
    let all = ap length (at_the_test place.After-copy_from_slice-2) in omega (arith, all)

pub returns-in-Rfc8506 : goal.returns-in-Rfc8506
unfolding kind_table dictionary rfc4006 rfc8506
returns-in-Rfc8506 c =
    let place = goal.at.returns-in-Rfc8506 c in
    ap₂ (put_mid 653 17) (at_the_test place.After-copy_from_slice-2) c.copy_from_slice-in-Rfc8506.ensures.after
    ∙ ap kind_table (sym c.in-Rfc8506.is)
