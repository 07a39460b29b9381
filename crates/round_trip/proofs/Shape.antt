-- Reading a table as a forest and laying a forest out as a table. Any table is laid out again, since the part of a forest that is
-- deeper than a record and the rest of it are all of it. A forest is read again where its members stand one level deeper, and is laid
-- out as a valid table where its records keep the rules and only a group has members.
use Prim.Native.Nat.{ℕ, ◌+◌, ◌≤◌, ◌<◌}
use mathlib.Core.Path.{◌≡◌, refl, ap, ◌∙◌}
use mathlib.Core.Bool.{true, false}
use mathlib.Core.Logic.{inl, inr}
use mathlib.Core.List.{List, [], ◌∷◌, ◌++◌, append_assoc, append-nil}
use native.Mathlib.Omega.{arith}
use lib.ListN.{length, length-append}
use lib.Dec.{leb}
use borrow.Author.Tests.{le-leb, lt-leb}
use Rattle.record.specs.Record.{Record}
use Rattle.record.specs.Forest.{Forest, none, node, leading, following, forest, flat}
use Rattle.rfc6733.specs.Writer.{is_group, keeps}
use Rattle.refusal.proofs.Tests.{decide}
use Rattle.round_trip.specs.Forests.{count}
use Rattle.round_trip.specs.Rules.{Valid, Kept}
use Rattle.round_trip.proofs.Rules.{keeps_good, good_at, after_group, after_leaf, valid_up}

-- ---- a table, laid out again

-- the two parts of a forest at a depth are all of it
split : (d : ℕ) (f : Forest) → flat (leading d f) ++ flat (following d f) ≡ flat f
split d none = refl
split d (node r i t) =
    elim (decide (leb d r.depth)) [ inl e ↦ rw (e, append_assoc, split d t) | inr e ↦ rw e ]

pub flat_forest : (rs : List Record) → flat (forest rs) ≡ rs
flat_forest [] = refl
flat_forest (r ∷ rs) = rw (split (r.depth + 1) (forest rs), flat_forest rs)

pub count_flat : (f : Forest) → length (flat f) ≡ count f
count_flat none = refl
count_flat (node r i t) = omega (arith, length-append (flat i) (flat t), count_flat i, count_flat t)

pub leading_fewer : (d : ℕ) (f : Forest) → count (leading d f) ≤ count f
leading_fewer d f = omega (arith, count_flat (leading d f), count_flat f, simp length-append at (ap length (split d f)))

-- ---- a forest that keeps the rules

-- its trees stand at depth d, their members one deeper, and only a group has members
pub data Sound (n : ℕ) : ℕ → Forest → Type 0 where
  no_more : {d : ℕ} → Sound n d none
  more : {d : ℕ} {r : Record} {i t : Forest} → keeps d n r ≡ true → r.depth ≡ d → (is_group r ≡ false → i ≡ none)
      → Sound n (d + 1) i → Sound n d t → Sound n d (node r i t)

pub sound_kept : (n d : ℕ) (f : Forest) → Sound n d f → Kept n f
sound_kept n d none s = tt
sound_kept n d (node r i t) (more k e h s u) =
    (good_at d r.depth n r (omega arith) (keeps_good d n r k), sound_kept n (d + 1) i s, sound_kept n d t u)

-- ---- its table is valid

valid_before : (n d : ℕ) (f : Forest) (rs : List Record) → Sound n d f → Valid d n rs → Valid d n (flat f ++ rs)
valid_before n d none rs s v = v
valid_before n d (node r i t) rs (more k e h s u) v =
    let w = valid_before n d t rs u v in
    rw (append_assoc (flat i) (flat t) rs) (
      k,
      elim (decide (is_group r)) [
        | inl z ↦ rw (after_group r z, e) (valid_before n (d + 1) i (flat t ++ rs) s (valid_up d (d + 1) n (flat t ++ rs) (omega arith) w))
        | inr z ↦ rw (after_leaf r z, e, h z) w
      ],
    )

pub sound_valid : (n d : ℕ) (f : Forest) → Sound n d f → Valid d n (flat f)
sound_valid n d f s = rw append-nil at (valid_before n d f [] s tt)

-- ---- it is read again

-- what starts above depth d
abbrev Low : ℕ → Forest → Type 0
Low d none = Unit {0}
Low d (node r i t) = r.depth < d

-- one forest after another
abbrev follow : Forest → Forest → Forest
follow none g = g
follow (node r i t) g = node r i (follow t g)

follow_none : (f : Forest) → follow f none ≡ f
follow_none none = refl
follow_none (node r i t) = ap (node r i) (follow_none t)

low_up : (d : ℕ) (g : Forest) → Low d g → Low (d + 1) g
low_up d none h = tt
low_up d (node r i t) h = omega arith

module _ (n : ℕ) where
  low_follow : (d : ℕ) (f g : Forest) → Sound n d f → Low (d + 1) g → Low (d + 1) (follow f g)
  low_follow d none g l h = h
  low_follow d (node r i t) g (more k e o l m) h = omega arith

  follow_parts : (d : ℕ) (f g : Forest) → Sound n d f → Low d g → (leading d (follow f g) ≡ f) × (following d (follow f g) ≡ g)
  follow_parts d none none l h = (refl, refl)
  follow_parts d none (node r i t) l h = rw (lt-leb d r.depth h) (refl, refl)
  follow_parts d (node r i t) g (more k e o l m) h =
      let p = follow_parts d t g m h in
      rw (le-leb d r.depth (omega arith)) (ap (node r i) p.0, p.1)

  -- before a table that does not go on below it
  read_before : (d : ℕ) (f : Forest) (rs : List Record) → Sound n d f → Low (d + 1) (forest rs) → forest (flat f ++ rs) ≡ follow f (forest rs)
  read_before d none rs l h = refl
  read_before d (node r i t) rs (more k e o l m) h =
      let x = read_before d t rs m h in
      let low = low_follow d t (forest rs) m h in
      let y = read_before (d + 1) i (flat t ++ rs) l (rw x (low_up (d + 1) (follow t (forest rs)) low)) in
      let p = follow_parts (d + 1) i (follow t (forest rs)) l low in
      rw (append_assoc (flat i) (flat t) rs, y, x, e, p.0, p.1)

  pub sound_read : (d : ℕ) (f : Forest) → Sound n d f → forest (flat f) ≡ f
  sound_read d f l = rw append-nil at (read_before d f [] l tt) ∙ follow_none f
