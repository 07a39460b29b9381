-- A turn of a loop over a run. Where a complete item of n bytes is at `at`, it lies within the run, what follows it is the run from `at + n` on,
-- and its own bytes are the n there. So it is of any format.
use Prim.Native.Nat.{ℕ, ◌+◌, ◌≤◌}
use mathlib.Core.Path.{◌≡◌, sym, ap, ◌∙◌}
use mathlib.Core.Bool.{true}
use mathlib.Core.List.{List}
use native.Mathlib.Omega.{arith}
use lib.ListN.{length, take, drop, length-drop}
use lib.Seq.{drop-drop}
use Rattle.octets.specs.Run.{Format, item, after}
use Rattle.octets.proofs.Runs.{Sound, parts}

module _ (F : Format) (ok : Sound F) (s : List ℕ) (at n : ℕ) (here : F.complete (drop at s) ≡ true) (size : n ≡ F.size (drop at s)) where
  pub turn_fits : at + n ≤ length s
  turn_fits = let p = parts F ok (drop at s) here in omega (arith, p.some, p.there, length-drop at s)

  pub turn_next : drop (at + n) s ≡ after F (drop at s)
  unfolding after
  turn_next = sym (drop-drop n at s) ∙ ap (λ (k : ℕ). drop k (drop at s)) size

  pub turn_own : take n (drop at s) ≡ item F (drop at s)
  unfolding item
  turn_own = ap (λ (k : ℕ). take k (drop at s)) size
