-- The kinds by code. A code that a table doesn't list is Unhandled, by induction over the table; the codes that it
-- lists are one computation. So the sawp dictionary is the table of docs/FORMAT.md, 5.1, at every code, and the table
-- of a reading with what is beside it is the reading's dictionary.
use Prim.Native.Nat.{ℕ, ◌≤◌, ◌<◌}
use mathlib.Core.Path.{◌≡◌, refl, sym, ap, ◌∙◌, fun_ext}
use mathlib.Core.Bool.{false, cond}
use mathlib.Core.List.{List, [], ◌∷◌, ◌++◌}
use native.Mathlib.Omega.{arith}
use denote.Ref.{Bor}
use lib.ListN.{get_or}
use lib.Dec.{eqb}
use borrow.Author.Tests.{le-leb}
use Rattle.std.proofs.lemmas.Bool.Decides.{nat_tests}
use Rattle.rfc6733.specs.Value.{one_of}
use Rattle.record.specs.Value.{Value}
use Rattle.record.specs.Kinds.{unhandled, time}
use Rattle.rfc6733.specs.Dictionary.{Dictionary, base_avps, sawp_avps, by_rows, family_address, bare_address, sawp, rfc}
use Rattle.record.specs.Rows.{Row, kind_in, table}
use Rattle.rfc6733.proofs.Listed.{one_of_append, passed}
use Rattle.attribute.specs.Attributes.{dictionary, kind_table}
use Rattle.attribute.specs.ByTable.{known, kind_by, address_by, dictionary_of, read_by}
use Rattle.attribute.specs.declared.Dictionary as declared
use Rattle.attribute.specs.declared.Reading.{Reading}
use Rattle.attribute.specs.declared.Reading.TheVariants.{Sawp, Rfc}
use Rattle.attribute.specs.Kinds.{Codes, kinds_by_code, kind_among}
use Rattle.attribute.proofs.Agreement.{same_by_list}
use Rattle.record.proofs.Rows.{codes_in, greatest, entry_of, greatest_kind, kind_within}

-- ---- off the codes of a table

abbrev codes_among : List Codes → List ℕ
codes_among [] = []
codes_among (r ∷ rs) = r.codes ++ codes_among rs

off_rows : (rs : List Row) (c : ℕ) → one_of c (codes_in rs) ≡ false → kind_in rs c ≡ unhandled
off_rows [] c h = refl
off_rows (r ∷ rs) c h = passed (eqb c r.code) _ _ _ _ h (off_rows rs c)

off_codes : (rs : List Codes) (c : ℕ) → one_of c (codes_among rs) ≡ false → kind_among rs c ≡ unhandled
off_codes [] c h = refl
off_codes (r ∷ rs) c h = passed (one_of c r.codes) _ _ _ _ (rw one_of_append at h) (off_codes rs c)

-- ---- the readings beside one another, and beside the table of docs/FORMAT.md

-- the table of docs/FORMAT.md is the sawp dictionary's
pub document_kinds : (c : ℕ) → kind_in sawp_avps c ≡ kind_among kinds_by_code c
document_kinds c =
    let same = same_by_list (kind_in sawp_avps) (kind_among kinds_by_code) in
    same (codes_in sawp_avps) refl c
    (λ h. same (codes_among kinds_by_code) refl c (λ h'. off_rows sawp_avps c h ∙ sym (off_codes kinds_by_code c h')))

-- ---- a lent table

-- what is found for a code is a kind, whatever the bytes of the table are
pub kind_is_known : (d : declared.Dictionary) (c v : ℕ) → known ((dictionary_of d).kind c v) ≡ (dictionary_of d).kind c v
unfolding dictionary_of kind_by
kind_is_known d c v = grind (arith, nat_tests)

-- the table of a list of rows, each of a kind
listed_kind : (rs : List Row) (n : ℕ) → greatest (codes_in rs) < n → greatest_kind rs ≤ time → (c : ℕ)
    → known (get_or (table (kind_in rs) n) c unhandled) ≡ kind_in rs c
listed_kind rs n codes kinds c =
    let within : kind_in rs c ≤ time = omega (arith, kind_within rs c) in
    rw (entry_of rs n codes c, le-leb _ _ within)

same_kinds : {k k' : ℕ → ℕ → ℕ} (as_address : List ℕ → Value) → ((c v : ℕ) → k c v ≡ k' c v)
    → let D : (ℕ → ℕ → ℕ) → Dictionary = λ k. record { kind = k; as_address = as_address } in D k ≡ D k'
same_kinds as_address same =
    ap (λ (k : ℕ → ℕ → ℕ). record { kind = k; as_address = as_address }) (fun_ext (λ c. fun_ext (same c)))

-- the table of some rows, with what the RFC reading has beside it, is the dictionary of those rows
pub rows_by_table : (rs : List Row) (n : ℕ) → greatest (codes_in rs) < n → greatest_kind rs ≤ time
    → (ks : Bor (List ℕ)) → ks.now ≡ table (kind_in rs) n → dictionary_of (read_by Rfc ks) ≡ by_rows rs
unfolding dictionary_of kind_by address_by read_by
rows_by_table rs n codes kinds ks e =
    rw e (same_kinds family_address (λ c v. ap (λ (k : ℕ). cond (eqb v 0) k unhandled) (listed_kind rs n codes kinds c)))

-- the table of a reading, with what is beside it, is the reading's dictionary
pub dictionary_by_table : (r : Reading) {d : declared.Dictionary} (ks : Bor (List ℕ)) → d ≡ read_by r ks → ks.now ≡ kind_table r
    → dictionary_of d ≡ dictionary r
unfolding dictionary_of kind_by address_by read_by kind_table dictionary sawp rfc
dictionary_by_table Sawp ks made e = rw (made, e) (same_kinds bare_address (λ c v. listed_kind sawp_avps 512 (omega arith) (omega arith) c))
dictionary_by_table Rfc ks made e = rw made (rows_by_table base_avps 512 (omega arith) (omega arith) ks e)
