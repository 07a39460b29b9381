-- How a table changes of which one record was found otherwise, part by part: with records before it and behind it, after earlier ones. Walking back,
-- records that are none of its groups are passed, if they stand behind its group.
use Prim.Native.Nat.{ℕ, ◌+◌, ◌≤◌}
use mathlib.Core.Path.{◌≡◌, refl, sym, ap, ◌∙◌}
use mathlib.Core.Bool.{Bool, false, cond, not, ◌&&◌}
use mathlib.Core.List.{List, [], ◌∷◌, ◌++◌, append_assoc, reverse_aux, reverse_aux-append}
use native.Mathlib.Omega.{arith}
use lib.Dec.{eqb}
use lib.ListN.{length, length-append}
use lib.Seq.{sets}
use Rattle.octets.specs.Octets.{octets}
use Rattle.record.specs.Record.{Record, record_bytes}
use Rattle.record.specs.Store.{put_found}
use Rattle.record.specs.Damage.{ButFound, ButErrors}
use Rattle.record.proofs.Found.{found_in}

-- ---- walking back

-- is the record of index i the group of one of this depth and parent? At depth 1 there is none
abbrev pub is_group_of : ℕ → ℕ → ℕ → Bool
is_group_of depth parent i = not (eqb depth 1) && eqb parent i

-- Walking back from a record: its group may have other error flags, and so may the group of that one, and so on; any
-- other record is the same. Earlier records stand with the last first, so the index of one is how many stand behind it.
abbrev pub ButAround : ℕ → ℕ → List Record → List Record → Type 0
ButAround depth parent [] [] = Unit {0}
ButAround depth parent [] (y ∷ ys) = ⊥
ButAround depth parent (x ∷ xs) [] = ⊥
ButAround depth parent (x ∷ xs) (y ∷ ys) =
    cond (is_group_of depth parent (length xs)) (ButErrors x y × ButAround x.depth x.parent xs ys)
    ((x ≡ y) × ButAround depth parent xs ys)

-- after earlier records, at a depth and in a group: the next record has the index `first`, and none from it on is that
-- group
pub record After (depth parent first : ℕ) (earlier : List Record) : Type 0 where
  pub some : 1 ≤ depth
  pub first_is : length earlier ≡ first
  pub no_group : (i : ℕ) → first ≤ i → is_group_of depth parent i ≡ false

-- past records that are none of the groups around
pub past_same : (depth parent : ℕ) (rs earlier earlier' : List Record) → ((i : ℕ) → length earlier ≤ i → is_group_of depth parent i ≡ false)
    → ButAround depth parent earlier earlier' → ButAround depth parent (reverse_aux rs earlier) (reverse_aux rs earlier')
past_same depth parent [] earlier earlier' none w = w
past_same depth parent (r ∷ rs) earlier earlier' none w =
    past_same depth parent rs (r ∷ earlier) (r ∷ earlier') (λ i le. none i (omega arith)) (rw (none (length earlier) (omega arith)) (refl, w))

pub back_length : (rs earlier : List Record) → length (reverse_aux rs earlier) ≡ length rs + length earlier
back_length [] earlier = omega arith
back_length (r ∷ rs) earlier = omega (arith, back_length rs (r ∷ earlier))

-- the table before and after, behind earlier records: what stands before the record, it, and what stands behind it, which is the same
pub record Told (k : ℕ) (earlier earlier' rs rs' : List Record) : Type 0 where
  pub front : List Record
  pub front' : List Record
  pub r : Record
  pub r' : Record
  pub behind : List Record
  pub was : rs ≡ front ++ (r ∷ behind)
  pub is : rs' ≡ front' ++ (r' ∷ behind)
  pub index_is : length front ≡ k
  pub itself : ButFound r r'
  pub around : ButAround r.depth r.parent (reverse_aux front earlier) (reverse_aux front' earlier')

-- with other records before, and behind
module _ {k : ℕ} {earlier earlier' rs rs' : List Record} where
  pub told_before : (pre pre' : List Record) (n : ℕ) → length pre + k ≡ n → Told k (reverse_aux pre earlier) (reverse_aux pre' earlier') rs rs'
      → Told n earlier earlier' (pre ++ rs) (pre' ++ rs')
  told_before pre pre' n e t =
      record {
        front = pre ++ t.front;
        front' = pre' ++ t.front';
        r = t.r;
        r' = t.r';
        behind = t.behind;
        was = ap (λ (l : List Record). pre ++ l) t.was ∙ sym (append_assoc pre t.front _);
        is = ap (λ (l : List Record). pre' ++ l) t.is ∙ sym (append_assoc pre' t.front' _);
        index_is = length-append pre t.front ∙ omega (arith, t.index_is);
        itself = t.itself;
        around = rw (reverse_aux-append pre t.front earlier, reverse_aux-append pre' t.front' earlier') t.around;
      }

  pub told_behind : (post : List Record) → Told k earlier earlier' rs rs' → Told k earlier earlier' (rs ++ post) (rs' ++ post)
  told_behind post t =
      record {
        front = t.front;
        front' = t.front';
        r = t.r;
        r' = t.r';
        behind = t.behind ++ post;
        was = ap (λ (l : List Record). l ++ post) t.was ∙ append_assoc t.front _ post;
        is = ap (λ (l : List Record). l ++ post) t.is ∙ append_assoc t.front' _ post;
        index_is = t.index_is;
        itself = t.itself;
        around = t.around;
      }

  pub told_of : (ps ps' : List Record) → ps ≡ rs → ps' ≡ rs' → Told k earlier earlier' rs rs' → Told k earlier earlier' ps ps'
  told_of ps ps' e e' t = rw (e, e') t

-- ---- in bytes: of the record itself 17, 18 and 24..31 change, and of a group around it 18

pub found_bytes : (x y : Record) → ButFound x y → record_bytes y ≡ put_found y.kind y.errors y.value (record_bytes x)
found_bytes x y e = ap record_bytes e ∙ sym (found_in x y.kind y.errors y.value)

pub errors_byte : (x y : Record) → ButErrors x y → record_bytes y ≡ sets (record_bytes x) 18 (octets 1 y.errors)
unfolding record_bytes octets
errors_byte x y e = ap record_bytes e
