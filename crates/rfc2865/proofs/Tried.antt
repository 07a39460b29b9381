-- How many attributes are tried. None has others inside, so of a run that tiles they are its items; and each takes two bytes at least, so
-- twice their number is at most the length.
use Prim.Native.Nat.{ℕ, suc, ◌+◌, ◌*◌, ◌≤◌}
use mathlib.Core.Path.{◌≡◌, refl, ap}
use mathlib.Core.Bool.{true}
use mathlib.Core.Logic.{inl, inr}
use mathlib.Core.List.{List, [], ◌∷◌}
use native.Mathlib.Omega.{arith}
use lib.ListN.{length}
use Rattle.octets.specs.Run.{Tree, tree, tiles, tried, items}
use Rattle.octets.proofs.Runs.{false_true, tree_none, tree_broken, tree_plain, by_run}
use Rattle.refusal.proofs.Tests.{decide}
use Rattle.rfc2865.specs.Attribute.{complete, attributes}
use Rattle.rfc2865.specs.Records.{records}
use Rattle.rfc2865.proofs.Items.{complete_whole, sound}

-- of a run of n bytes that tiles
pub record Few (t : Tree) (n : ℕ) : Type 0 where
  pub own : tiles t ≡ true → tried t ≡ length (items t)
  pub twice : tiles t ≡ true → 2 * tried t ≤ n

pub few : (s : List ℕ) → Few (tree attributes s) (length s)
few =
    by_run attributes sound (λ (s : List ℕ). Few (tree attributes s) (length s))
    (rw tree_none (record { own = λ e. refl; twice = λ e. omega arith }))
    (λ s pos h.
    elim (decide (complete s)) [
      | inl e ↦
          let parts = (h e).0 in
          let later = (h e).2 in
          let two = (complete_whole s e).least in
          rw (tree_plain attributes sound s e refl)
          (record { own = λ t. omega (arith, later.own t); twice = λ t. omega (arith, later.twice t, parts.after_length, parts.there) })
      | inr e ↦
          rw (tree_broken attributes sound s pos e)
          (record { own = λ t. absurd (false_true t); twice = λ t. absurd (false_true t) })
    ])

-- each has a record
pub records_length : (place : ℕ) (own : List (List ℕ)) → length (records place own) ≡ length own
records_length place [] = refl
records_length place (a ∷ more) = ap suc (records_length (place + length a) more)
