-- The first n bytes of a list, with 0 for each that is absent. A byte that is absent counts as 0, so what is read from them is read from the list.
use Rattle.std.proofs.Common.{◌≡◌, ℕ, zero, suc, ◌+◌, ◌<◌, ◌≤◌, length, List, [], ◌∷◌, ◌++◌, get_or, take, replicate, refl, ap, arith}
use Rattle.std.proofs.lemmas.Grind.{common_steps}
use mathlib.Core.Path.{ap₂}
use lib.ListN.{get_or-eq_default}
use Rattle.octets.specs.Octets.{be, total, unpack, Layout, value_at}
use Rattle.octets.proofs.Numbers.{be_same}

-- a number whose bytes are all absent
pub be_absent : (n : ℕ) (s : List ℕ) (i : ℕ) → length s ≤ i → be n s i ≡ 0
unfolding be
be_absent zero s i h = refl
be_absent (suc n) s i h = omega (arith, be_absent n s i h, get_or-eq_default s 0 {n = i + n} (omega arith))

front_byte : (n : ℕ) (s : List ℕ) (i : ℕ) → i < n → get_or (take n (s ++ replicate n 0)) i 0 ≡ get_or s i 0
front_byte n s i h = grind (arith, common_steps)

module _ (n : ℕ) (s : List ℕ) {b : List ℕ} (front : b ≡ take n (s ++ replicate n 0)) where
  pub number_of_front : (w i : ℕ) → i + w ≤ n → be w b i ≡ be w s i
  number_of_front w i h = rw front (be_same w _ s i i (λ j l. front_byte n s (i + j) (omega arith)))

  numbers_of_front : (ws : List ℕ) (i : ℕ) → i + total ws ≤ n → unpack ws b i ≡ unpack ws s i
  numbers_of_front [] i h = refl
  numbers_of_front (w ∷ ws) i h = ap₂ ◌∷◌ (number_of_front w i (omega arith)) (numbers_of_front ws (i + w) (omega arith))

  pub value_of_front : {A : Type 0} (L : Layout A) → total L.sizes ≤ n → value_at L b ≡ value_at L s
  value_of_front L h = ap L.made (numbers_of_front L.sizes 0 (omega arith))
