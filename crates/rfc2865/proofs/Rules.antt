-- The rules of a record, fact by fact; and a table in which all records keep them: that is one in which as many keep them as there are.
use Prim.Native.Nat.{ℕ, suc, ◌+◌, ◌≤◌}
use mathlib.Core.Path.{◌≡◌, refl, ap}
use mathlib.Core.Bool.{true}
use mathlib.Core.Logic.{inl, inr}
use mathlib.Core.List.{List, [], ◌∷◌}
use native.Mathlib.Omega.{arith}
use lib.ListN.{length}
use Rattle.record.specs.Record.{Record}
use Rattle.record.specs.Parents.{top_level}
use Rattle.record.specs.Table.{Every}
use Rattle.refusal.proofs.Tests.{decide, eq_is, tests}
use Rattle.rfc2865.specs.Attribute.{head_size, most_length}
use Rattle.rfc2865.specs.Writer.{stated_data, keeps, keepers}

pub record Good (n : ℕ) (r : Record) : Type 0 where
  pub code_fits : r.code ≤ 255
  pub least : head_size ≤ r.length
  pub most : r.length ≤ most_length
  pub depth_is : r.depth ≡ 1
  pub flags_are : r.flags ≡ 0
  pub vendor_is : r.vendor ≡ 0
  pub padding_is : r.padding ≡ 0
  pub pads_are : r.pads ≡ 0
  pub parent_is : r.parent ≡ top_level
  pub within : r.place + stated_data r ≤ n

pub keeps_good : (n : ℕ) (r : Record) → keeps n r ≡ true → Good n r
unfolding keeps
keeps_good n r e = let h = simp (eq_is, tests) at e in search

pub good_keeps : (n : ℕ) (r : Record) → Good n r → keeps n r ≡ true
unfolding keeps
good_keeps n r g = simp (eq_is, tests) (search g)

-- ---- a table

abbrev pub Kept : ℕ → List Record → Type 0
Kept n = Every (λ r. keeps n r ≡ true)

pub keepers_most : (n : ℕ) (rs : List Record) → keepers n rs ≤ length rs
keepers_most n [] = omega arith
keepers_most n (r ∷ rs) = elim (decide (keeps n r)) [ inl e ↦ rw e (omega (arith, keepers_most n rs)) | inr e ↦ rw e (omega arith) ]

pub kept_keepers : (n : ℕ) (rs : List Record) → Kept n rs → keepers n rs ≡ length rs
kept_keepers n [] k = refl
kept_keepers n (r ∷ rs) k = rw k.0 (ap suc (kept_keepers n rs k.1))

pub keepers_kept : (n : ℕ) (rs : List Record) → length rs ≤ keepers n rs → Kept n rs
keepers_kept n [] h = tt
keepers_kept n (r ∷ rs) h =
    elim (decide (keeps n r)) [
      | inl e ↦ let h' = rw e at h in (e, keepers_kept n rs (omega arith))
      | inr e ↦ let h' = rw e at h in absurd (omega arith)
    ]
