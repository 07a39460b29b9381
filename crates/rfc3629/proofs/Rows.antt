-- The code joins its tests from the left and the definition from the right. Joined either way, tests that are equal one by one are equal.
use mathlib.Core.Path.{◌≡◌}
use mathlib.Core.Bool.{Bool, true, false, ◌&&◌, ◌||◌, and_assoc, or_assoc, and-true, or-false}

-- ---- a row: one byte after the other

pub row_3 : {a b c p q r : Bool} → a ≡ p → b ≡ q → c ≡ r → a && b && c ≡ p && (q && (r && true))
row_3 e f g = simp (and_assoc, and-true) (cc)

pub row_4 : {a b c d p q r s : Bool} → a ≡ p → b ≡ q → c ≡ r → d ≡ s → a && b && c && d ≡ p && (q && (r && (s && true)))
row_4 e f g h = simp (and_assoc, and-true) (cc)

-- ---- alternatives

pub three_rows : {a b c p q r : Bool} → a ≡ p → b ≡ q → c ≡ r → a || b || c ≡ p || (q || (r || false))
three_rows e f g = simp (or_assoc, or-false) (cc)

pub four_rows : {a b c d p q r s : Bool} → a ≡ p → b ≡ q → c ≡ r → d ≡ s → a || b || c || d ≡ p || (q || (r || (s || false)))
four_rows e f g h = simp (or_assoc, or-false) (cc)
