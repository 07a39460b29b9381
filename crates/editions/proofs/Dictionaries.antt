-- The table of an edition, with what the RFC reading has beside it, is the edition's dictionary, at every code: its
-- codes and kinds lie within the table's bounds, and past the table a code is Unhandled in both. A number chooses the
-- edition whose dictionary the definition has for it.
use Prim.Native.Nat.{ℕ}
use mathlib.Core.Path.{◌≡◌}
use mathlib.Core.Bool.{true, false}
use mathlib.Core.List.{List, ◌++◌}
use native.Mathlib.Omega.{arith}
use denote.Ref.{Bor}
use Rattle.std.proofs.lemmas.Bool.Decides.{nat_tests}
use Rattle.std.specs.Prelude.{Some, None}
use Rattle.rfc6733.specs.Dictionary.{base_avps}
use Rattle.rfc6733.specs.CreditControl.{avps4006, avps8506, rfc4006, rfc8506, is_edition, edition_of}
use Rattle.attribute.specs.ByTable.{dictionary_of, read_by}
use Rattle.attribute.specs.declared.Dictionary.{Dictionary}
use Rattle.attribute.specs.declared.Reading.TheVariants.{Rfc}
use Rattle.attribute.proofs.Dictionaries.{rows_by_table}
use Rattle.editions.specs.declared.Edition.{Edition}
use Rattle.editions.specs.declared.Edition.TheVariants.{Rfc4006, Rfc8506}
use Rattle.editions.specs.Editions.{dictionary, chosen, kind_table}

dictionary_by_table : (e : Edition) (ks : Bor (List ℕ)) → ks.now ≡ kind_table e → dictionary_of (read_by Rfc ks) ≡ dictionary e
unfolding kind_table dictionary rfc4006 rfc8506
dictionary_by_table Rfc4006 ks is = rows_by_table (avps4006 ++ base_avps) 670 (omega arith) (omega arith) ks is
dictionary_by_table Rfc8506 ks is = rows_by_table (avps8506 ++ base_avps) 670 (omega arith) (omega arith) ks is

-- ---- by a number

chosen_edition : (n : ℕ) (e : Edition) → chosen n ≡ Some e → (is_edition n ≡ true) × (edition_of n ≡ dictionary e)
unfolding chosen edition_of dictionary
chosen_edition n Rfc4006 h = grind (arith, nat_tests)
chosen_edition n Rfc8506 h = grind (arith, nat_tests)

pub chosen_none : (n : ℕ) → chosen n ≡ None → is_edition n ≡ false
unfolding chosen
chosen_none n h = grind (arith, nat_tests)

-- so the table that a number chooses, with what is beside it, is the number's dictionary
pub number_by_table : (n : ℕ) (e : Edition) {d : Dictionary} (ks : Bor (List ℕ))
    → chosen n ≡ Some e → d ≡ read_by Rfc ks → ks.now ≡ kind_table e
    → (is_edition n ≡ true) × (dictionary_of d ≡ edition_of n)
number_by_table n e ks is made kinds =
    let known = chosen_edition n e is in (known.0, rw (made, known.1) (dictionary_by_table e ks kinds))
