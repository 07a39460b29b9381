-- Whether AVPs tile does not depend on which of them are entered; and `tiling` step by step.
use Prim.Native.Nat.{ℕ, ◌<◌}
use mathlib.Core.Path.{◌≡◌, sym, ◌∙◌}
use mathlib.Core.Bool.{true, false}
use mathlib.Core.Logic.{inl, inr}
use mathlib.Core.List.{List, [], ◌∷◌}
use native.Mathlib.Omega.{arith}
use lib.ListN.{length}
use lib.Dec.{eqb}
use borrow.Author.Tests.{ne_eqb}
use Rattle.octets.specs.Run.{item, after, tree, tiles}
use Rattle.octets.proofs.Runs.{tree_none, tree_step, tiles_node, tiles_none, tiles_broken, tiles_more, by_run}
use Rattle.rfc6733.specs.Avp.{complete}
use Rattle.rfc6733.specs.Dictionary.{Dictionary}
use Rattle.rfc6733.specs.Records.{avps, unentered, tiling}
use Rattle.refusal.proofs.Tests.{decide}
use Rattle.rfc6733.proofs.Items.{sound}

pub tiles_any : (D : Dictionary) (s : List ℕ) → tiles (tree (avps D) s) ≡ tiling s
unfolding tiling item after
tiles_any D =
    by_run (avps D) (sound (avps D).nested) (λ (s : List ℕ). tiles (tree (avps D) s) ≡ tiles (tree unentered s))
    (rw (tree_none (avps D), tree_none unentered))
    (λ s pos h.
    rw (tree_step (avps D) (sound (avps D).nested) s pos, tree_step unentered (sound (λ a. false)) s pos)
    (elim (decide (complete s)) [ inl e ↦ simp (e, tiles_node, (h e).2) | inr e ↦ rw e ]))

pub tiling_none : tiling [] ≡ true
unfolding tiling
tiling_none = tiles_none unentered

pub tiling_broken : (s : List ℕ) → 0 < length s → complete s ≡ false → tiling s ≡ false
unfolding tiling
tiling_broken = tiles_broken unentered (sound (λ a. false))

pub tiling_more : (s : List ℕ) → complete s ≡ true → tiling s ≡ tiling (after unentered s)
unfolding tiling
tiling_more = tiles_more unentered (sound (λ a. false))

-- where no AVP is complete at the front, what is left tiles only if it is nothing
pub tiling_stuck : (s : List ℕ) → complete s ≡ false → tiling s ≡ eqb (length s) 0
tiling_stuck [] broken = tiling_none
tiling_stuck (b ∷ bs) broken = tiling_broken (b ∷ bs) (omega arith) broken ∙ sym (ne_eqb (length (b ∷ bs)) 0 (λ e. omega arith))
