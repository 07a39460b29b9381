-- Damage stays in its AVP, over the tree and its records, for every dictionary. Two trees that differ in one AVP that is no group, whose header,
-- length and padding are the same: all that is counted is the same, and so are the records but that AVP's own and the error flags of the groups around
-- it. By induction over where it stands.
use Prim.Native.Nat.{ℕ, suc, ◌+◌}
use mathlib.Core.Path.{◌≡◌, refl, sym, ap, ◌∙◌}
use mathlib.Core.Bool.{true, cond}
use mathlib.Core.Logic.{inl, inr}
use mathlib.Core.List.{List, [], ◌∷◌, reverse_aux}
use native.Mathlib.Omega.{arith}
use lib.ListN.{length}
use borrow.Author.Tests.{eq-eqb, ne_eqb}
use Rattle.octets.specs.Run.{Tree, plain, group, tiles, tried, deepest}
use Rattle.refusal.proofs.Tests.{decide}
use Rattle.record.specs.Record.{Record}
use Rattle.record.specs.Value.{Value}
use Rattle.record.specs.Parents.{with_parent}
use Rattle.rfc6733.specs.Avp.{code, flags, avp_length, vendor, pads, head_size, data_size}
use Rattle.rfc6733.specs.Dictionary.{Dictionary}
use Rattle.rfc6733.specs.Records.{value_of, record_of, group_value, record_count}
use Rattle.rfc6733.specs.Groups.{member_records}
use Rattle.record.specs.Damage.{ButFound, ButErrors}
use Rattle.record.proofs.Damage.{After, is_group_of, ButAround, past_same, back_length, Told, told_before, told_behind, told_of}
use Rattle.rfc6733.proofs.Groups.{member_count_lem, member_group}

-- b is the AVP a but for its data
pub record Refilled (a b : List ℕ) : Type 0 where
  pub code_is : code b ≡ code a
  pub flags_is : flags b ≡ flags a
  pub length_is : avp_length b ≡ avp_length a
  pub vendor_is : vendor b ≡ vendor a
  pub pads_are : pads b ≡ pads a
  pub size_is : length b ≡ length a

-- how many records the members of a group have
abbrev pub member_count : Tree → ℕ
member_count inner = cond (tiles inner) (record_count inner) 0

-- the second tree is the first but for one AVP that is no group, before which k records stand, and for the bytes of the groups around it
pub data Changed : ℕ → Tree → Tree → Type 0 where
  here : {a b : List ℕ} {rest : Tree} → Refilled a b → Changed 0 (plain a rest) (plain b rest)
  past : {k : ℕ} {a : List ℕ} {rest rest' : Tree} → Changed k rest rest' → Changed (suc k) (plain a rest) (plain a rest')
  past_group : {k : ℕ} {a : List ℕ} {inner rest rest' : Tree} → Changed k rest rest'
      → Changed (suc (member_count inner + k)) (group a inner rest) (group a inner rest')
  inside : {k : ℕ} {a b : List ℕ} {inner inner' rest : Tree} → Refilled a b → tiles inner ≡ true → Changed k inner inner'
      → Changed (suc k) (group a inner rest) (group b inner' rest)

-- ---- what is counted

pub same_tiles : {k : ℕ} {t u : Tree} → Changed k t u → tiles u ≡ tiles t
same_tiles (here f) = refl
same_tiles (past c) = same_tiles c
same_tiles (past_group c) = same_tiles c
same_tiles (inside f tiled c) = refl

pub same_tried : {k : ℕ} {t u : Tree} → Changed k t u → tried u ≡ tried t
same_tried (here f) = refl
same_tried (past c) = omega (arith, same_tried c)
same_tried (past_group c) = omega (arith, same_tried c)
same_tried (inside f tiled c) = omega (arith, same_tried c)

pub same_deepest : {k : ℕ} {t u : Tree} → Changed k t u → deepest u ≡ deepest t
same_deepest (here f) = refl
same_deepest (past c) = rw (same_deepest c)
same_deepest (past_group c) = rw (same_deepest c)
same_deepest (inside f tiled c) = rw (same_deepest c)

pub same_count : {k : ℕ} {t u : Tree} → Changed k t u → record_count u ≡ record_count t
same_count (here f) = refl
same_count (past c) = omega (arith, same_count c)
same_count (past_group c) = omega (arith, same_count c)
same_count (inside f tiled c) = rw (same_tiles c, same_count c)

-- ---- one record

record_found : (place depth parent : ℕ) (a b : List ℕ) (v w : Value) → Refilled a b
    → ButFound (with_parent parent (record_of place depth a v)) (with_parent parent (record_of place depth b w))
unfolding record_of data_size
record_found place depth parent a b v w f = rw (f.code_is, f.flags_is, f.length_is, f.vendor_is, f.pads_are)

group_errors : (D : Dictionary) (place depth parent : ℕ) (a b : List ℕ) (i j : Tree) → Refilled a b → tiles i ≡ true → tiles j ≡ true
    → ButErrors (with_parent parent (record_of place depth a (group_value D i))) (with_parent parent (record_of place depth b (group_value D j)))
unfolding record_of data_size group_value
group_errors D place depth parent a b i j f ti tj = rw (f.code_is, f.flags_is, f.length_is, f.vendor_is, f.pads_are, ti, tj)

-- ---- the records

module _ (D : Dictionary) where
  members_length : (place depth parent first : ℕ) (inner : Tree) → length (cond (tiles inner) (member_records D place depth parent first inner) []) ≡ member_count inner
  members_length place depth parent first inner =
      elim (decide (tiles inner)) [ inl e ↦ rw e (member_count_lem D place depth parent first inner) | inr e ↦ rw e ]

  pub changed_records : {k : ℕ} {t u : Tree} → Changed k t u → (place depth parent first : ℕ) (earlier earlier' : List Record) → After depth parent first earlier
      → ButAround depth parent earlier earlier'
      → Told k earlier earlier' (member_records D place depth parent first t) (member_records D place depth parent first u)
  unfolding record_of
  changed_records (here {a = a} {b = b} {rest = rest} f) place depth parent first earlier earlier' at w =
      record {
        front = [];
        front' = [];
        r = with_parent parent (record_of place depth a (value_of D a));
        r' = with_parent parent (record_of place depth b (value_of D b));
        behind = member_records D (place + length a) depth parent (first + 1) rest;
        was = refl;
        is = rw f.size_is;
        index_is = refl;
        itself = record_found place depth parent a b (value_of D a) (value_of D b) f;
        around = w;
      }
  changed_records (past {a = a} c) place depth parent first earlier earlier' at w =
      let x = with_parent parent (record_of place depth a (value_of D a)) in
      let next : After depth parent (first + 1) (x ∷ earlier) =
      record { some = at.some; first_is = omega (arith, at.first_is); no_group = λ i le. at.no_group i (omega arith) } in
      told_before (x ∷ []) (x ∷ []) _ (omega arith)
      (changed_records c (place + length a) depth parent (first + 1) (x ∷ earlier) (x ∷ earlier') next
      (rw (at.no_group (length earlier) (omega (arith, at.first_is))) (refl, w)))
  changed_records (past_group {k = k} {a = a} {inner = inner} {rest = rest} {rest' = rest'} c) place depth parent first earlier earlier' at w =
      let pre = with_parent parent (record_of place depth a (group_value D inner))
      ∷ cond (tiles inner) (member_records D (place + head_size (flags a)) (depth + 1) first (first + 1) inner) [] in
      let n = members_length (place + head_size (flags a)) (depth + 1) first (first + 1) inner in
      let next : After depth parent (first + 1 + member_count inner) (reverse_aux pre earlier) =
      record { some = at.some; first_is = omega (arith, back_length pre earlier, at.first_is); no_group = λ i le. at.no_group i (omega arith) } in
      told_of _ _ (member_group D place depth parent first a inner rest) (member_group D place depth parent first a inner rest')
      (told_before pre pre _ (omega arith)
      (changed_records c (place + length a) depth parent (first + 1 + member_count inner) _ _ next
      (past_same depth parent pre earlier earlier' (λ i le. at.no_group i (omega (arith, at.first_is))) w)))
  changed_records (inside {k = k} {a = a} {b = b} {inner = i} {inner' = j} {rest = rest} f tiled c) place depth parent first earlier earlier' at w =
      let x = with_parent parent (record_of place depth a (group_value D i)) in
      let y = with_parent parent (record_of place depth b (group_value D j)) in
      let tiled' = same_tiles c ∙ tiled in
      let same = same_count c in
      let h = ap head_size f.flags_is in
      let deeper : After (depth + 1) first (first + 1) (x ∷ earlier) =
      record {
        some = omega arith;
        first_is = omega (arith, at.first_is);
        no_group = λ n le. rw (ne_eqb (depth + 1) 1 (λ z. omega (arith, at.some)), ne_eqb first n (λ z. omega arith));
      } in
      let own : is_group_of (depth + 1) first (length earlier) ≡ true =
      rw (ne_eqb (depth + 1) 1 (λ z. omega (arith, at.some)), eq-eqb first (length earlier) (sym at.first_is)) in
      let told = changed_records c (place + head_size (flags a)) (depth + 1) first (first + 1) (x ∷ earlier) (y ∷ earlier') deeper
      (rw own (group_errors D place depth parent a b i j f tiled tiled', w)) in
      let post = member_records D (place + length a) depth parent (first + 1 + record_count i) rest in
      told_of _ _
      (member_group D place depth parent first a i rest ∙ rw tiled)
      (member_group D place depth parent first b j rest ∙ rw (tiled', h, f.size_is, same))
      (told_before (x ∷ []) (y ∷ []) _ (omega arith) (told_behind post told))
