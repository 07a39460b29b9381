-- What `first_with` finds among the outlines of depth 1 is the outline of a record that stands in the table, of depth 1 and with the code,
-- and no such record stands before it.
use Prim.Native.Nat.{ℕ}
use mathlib.Core.Path.{◌≡◌, refl, sym, ap}
use Rattle.std.specs.Prelude.{None, Some}
use Rattle.std.proofs.lemmas.Option.{none-some, same_Some}
use mathlib.Core.Logic.{inl, inr}
use mathlib.Core.List.{List, [], ◌∷◌, ◌++◌, map}
use lib.Dec.{eqb}
use borrow.Author.Tests.{eqb-true}
use Rattle.refusal.proofs.Tests.{decide}
use Rattle.record.specs.Record.{Record}
use Rattle.record.specs.Outline.{Outline, outline_of}
use Rattle.record.specs.Table.{of_depth}
use Rattle.rfc6733.specs.Search.{first_with}

-- the outlines of depth 1
abbrev pub tops : List Record → List Outline
tops rs = map outline_of (of_depth 1 rs)

pub record FirstRecord (code : ℕ) (rs : List Record) (o : Outline) : Type 0 where
  pub before : List Record
  pub it : Record
  pub behind : List Record
  pub table_is : rs ≡ before ++ (it ∷ behind)
  pub outline_is : o ≡ outline_of it
  pub depth_one : it.depth ≡ 1
  pub has_code : it.code ≡ code
  pub none_before : first_with code (tops before) ≡ None

module _ (code : ℕ) (o : Outline) where
  -- a record that is passed
  passed_by : (r : Record) (rs : List Record) → ((bs : List Record) → first_with code (tops (r ∷ bs)) ≡ first_with code (tops bs))
      → FirstRecord code rs o → FirstRecord code (r ∷ rs) o
  passed_by r rs same f =
      record {
        before = r ∷ f.before;
        it = f.it;
        behind = f.behind;
        table_is = ap (λ (bs : List Record). r ∷ bs) f.table_is;
        outline_is = f.outline_is;
        depth_one = f.depth_one;
        has_code = f.has_code;
        none_before = rw (same f.before) f.none_before;
      }

  pub first_record : (rs : List Record) → first_with code (tops rs) ≡ Some o → FirstRecord code rs o
  first_record [] e = absurd (none-some o e)
  first_record (r ∷ rs) e =
      elim (decide (eqb r.depth 1)) [
        | inr d ↦ passed_by r rs (λ bs. rw d) (first_record rs (rw d at e))
        | inl d ↦
            elim (decide (eqb r.code code)) [
              | inr c ↦ passed_by r rs (λ bs. rw (d, c)) (first_record rs (rw (d, c) at e))
              | inl c ↦
                  record {
                    before = [];
                    it = r;
                    behind = rs;
                    table_is = refl;
                    outline_is = sym (same_Some (outline_of r) o (rw (d, c) at e));
                    depth_one = eqb-true r.depth 1 d;
                    has_code = eqb-true r.code code c;
                    none_before = refl;
                  }
            ]
      ]
