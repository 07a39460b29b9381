-- A table of which one record was found otherwise, record by record. What is known by walking back from that record is
-- said of each index: the record itself, a group around it, or one that is the same.
use Prim.Native.Nat.{ℕ, zero, suc, ◌+◌, ◌≤◌}
use mathlib.Core.Path.{◌≡◌, refl, sym, subst, ◌∙◌}
use mathlib.Core.Bool.{true}
use mathlib.Core.Logic.{◌⊎◌, inl, inr}
use mathlib.Core.List.{List, [], ◌∷◌, ◌++◌, reverse_aux}
use native.Mathlib.Omega.{arith}
use lib.ListN.{length}
use borrow.Author.Tests.{eqb-true, eqb-false, not-true}
use Rattle.refusal.proofs.Answers.{and-true}
use Rattle.refusal.proofs.Tests.{decide}
use Rattle.record.specs.Record.{Record}
use Rattle.record.specs.Damage.{ButFound, ButErrors, At, IsParent, Around, its_group, group_of, Damaged}
use Rattle.record.proofs.Damage.{is_group_of, ButAround, Told, back_length}

-- ---- where a record stands

pub at_same : (rs : List Record) (i : ℕ) (x y : Record) → At rs i x → At rs i y → x ≡ y
at_same [] i x y e e' = elim e [ ]
at_same (r ∷ rs) zero x y e e' = sym e ∙ e'
at_same (r ∷ rs) (suc i) x y e e' = at_same rs i x y e e'

-- behind others, the last of which stands first
at_behind : (xs ts : List Record) (i n : ℕ) (r : Record) → length xs + i ≡ n → At ts i r → At (reverse_aux xs ts) n r
at_behind [] ts i n r is e = let same : i ≡ n = omega arith in rw same at e
at_behind (x ∷ xs) ts i n r is e = at_behind xs (x ∷ ts) (suc i) n r (omega arith) e

-- turned round twice
back_again : (xs ys ts : List Record) → reverse_aux (reverse_aux xs ys) ts ≡ reverse_aux ys (xs ++ ts)
back_again [] ys ts = refl
back_again (x ∷ xs) ys ts = back_again xs (x ∷ ys) ts

-- ---- each record

module _ (rs : List Record) (k : ℕ) where
  -- what is said of the record of index i, x before and y after
  abbrev Said : ℕ → Record → Record → Type 0
  Said i x y = (i ≡ k → ButFound x y) × ((i ≡ k → ⊥) → (y ≡ x) ⊎ (Around rs k i × ButErrors x y))

  -- of all from the index n on
  abbrev AllSaid : ℕ → List Record → List Record → Type 0
  AllSaid n ts us = (j : ℕ) (x y : Record) → At ts j x → At us j y → Said (n + j) x y

  -- the record itself, or a group around it
  abbrev Reached : ℕ → Type 0
  Reached j = (j ≡ k) ⊎ Around rs k j

  -- one of this depth and parent was reached
  record Comes (depth parent : ℕ) : Type 0 where
    index : ℕ
    member : Record
    there : At rs index member
    reached : Reached index
    depth_is : member.depth ≡ depth
    parent_is : member.parent ≡ parent

  group_around : (depth parent i : ℕ) → Comes depth parent → is_group_of depth parent i ≡ true → Around rs k i
  group_around depth parent i c e =
      let both = and-true _ _ e in
      let p : IsParent rs i c.index =
      record {
        member = c.member;
        there = c.there;
        in_group = λ d. eqb-false depth 1 (not-true _ both.0) (sym c.depth_is ∙ d);
        parent_is = c.parent_is ∙ eqb-true parent i both.1;
      }
      in
      elim c.reached [
        | inl same ↦ its_group (subst (λ (j : ℕ). IsParent rs i j) same p)
        | inr around ↦ group_of around p
      ]

  one_more : (n : ℕ) (x y : Record) (ts us : List Record) → Said n x y → AllSaid (suc n) ts us → AllSaid n (x ∷ ts) (y ∷ us)
  one_more n x y ts us said all zero x' y' e e' =
      let i : n ≡ n + 0 = omega arith in rw (← i, ← e, ← e') said
  one_more n x y ts us said all (suc j) x' y' e e' =
      let i : suc n + j ≡ n + suc j = omega arith in rw i at (all j x' y' e e')

  -- walking back over xs, which became ys, from what stands behind them
  walk : (xs ys ts us : List Record) (depth parent : ℕ) → rs ≡ reverse_aux xs ts → Comes depth parent
      → ButAround depth parent xs ys → length xs ≤ k → AllSaid (length xs) ts us
      → AllSaid 0 (reverse_aux xs ts) (reverse_aux ys us)
  walk [] [] ts us depth parent is comes w le all = all
  walk [] (y ∷ ys) ts us depth parent is comes w le all = absurd w
  walk (x ∷ xs) [] ts us depth parent is comes w le all = absurd w
  walk (x ∷ xs) (y ∷ ys) ts us depth parent is comes w le all =
      elim (decide (is_group_of depth parent (length xs))) [
        | inl e ↦
            let around = group_around depth parent (length xs) comes e in
            let found = rw e at w in
            let group : Comes x.depth x.parent =
            record {
              index = length xs;
              member = x;
              there = subst (λ (l : List Record). At l (length xs) x) (sym is) (at_behind xs (x ∷ ts) 0 _ x (omega arith) refl);
              reached = inr around;
              depth_is = refl;
              parent_is = refl;
            }
            in
            walk xs ys (x ∷ ts) (y ∷ us) x.depth x.parent is group found.1 (omega arith)
            (one_more (length xs) x y ts us (λ i. absurd (omega arith), λ far. inr (around, found.0)) all)
        | inr e ↦
            let same = rw e at w in
            walk xs ys (x ∷ ts) (y ∷ us) depth parent is comes same.1 (omega arith)
            (one_more (length xs) x y ts us (λ i. absurd (omega arith), λ far. inl (sym same.0)) all)
      ]

-- ---- the table

-- the records themselves, and those behind them, which are the same
from_it : (rs : List Record) (k : ℕ) (r r' : Record) (behind : List Record) → ButFound r r' → AllSaid rs k k (r ∷ behind) (r' ∷ behind)
from_it rs k r r' behind found =
    one_more rs k k r r' behind behind (λ i. found, λ far. absurd (far refl))
    (λ j x y e e'. (λ i. absurd (omega arith), λ far. inl (at_same behind j y x e' e)))

pub told_damaged : {k : ℕ} {rs rs' : List Record} → Told k [] [] rs rs' → length rs' ≡ length rs → Damaged rs k rs'
told_damaged {k = k} {rs = rs} {rs' = rs'} t counted =
    record {
      same_count = counted;
      itself = λ x y e e'. (all k x y e e').0 refl;
      others = λ i x y far e e'. elim ((all i x y e e').1 far) [ inl same ↦ rw same | inr found ↦ found.1 ];
      untouched =
          λ i x y far none e e'. elim ((all i x y e e').1 far) [ inl same ↦ same | inr found ↦ absurd (none found.0) ];
    }
  where
    xs : List Record
    xs = reverse_aux t.front []

    counted_back : length xs ≡ k
    counted_back = back_length t.front [] ∙ omega (arith, t.index_is)

    is : rs ≡ reverse_aux xs (t.r ∷ t.behind)
    is = t.was ∙ sym (back_again t.front [] _)

    its_own : Comes rs k t.r.depth t.r.parent
    its_own =
        record {
          index = k;
          member = t.r;
          there = subst (λ (l : List Record). At l k t.r) (sym is) (at_behind xs _ 0 k t.r (omega (arith, counted_back)) refl);
          reached = inl refl;
          depth_is = refl;
          parent_is = refl;
        }

    all : (i : ℕ) (x y : Record) → At rs i x → At rs' i y → Said rs k i x y
    all i x y e e' =
        let same : 0 + i ≡ i = omega arith in
        let is' = t.is ∙ sym (back_again t.front' [] _) in
        let own : AllSaid rs k (length xs) (t.r ∷ t.behind) (t.r' ∷ t.behind) =
        rw counted_back (from_it rs k t.r t.r' t.behind t.itself)
        in
        let each = walk rs k xs _ _ _ _ _ is its_own t.around (omega (arith, counted_back)) own in
        rw same at (each i x y (rw is at e) (rw is' at e'))
