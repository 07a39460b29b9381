-- The signs of ABNF that RFC 3629 uses (RFC 2234, section 3), as statements on bytes.
use Rattle.std.specs.Prelude.{ℕ, ◌≤◌, ◌≡◌, ◌⊎◌, List, [], ◌∷◌, ◌++◌}

-- %xLOW-HIGH, one byte of a range (3.4); %xB is the byte B alone (2.3)
pub record Range : Type 0 where
  pub low : ℕ
  pub high : ℕ

abbrev pub range : ℕ → ℕ → Range
range l h = record { low = l; high = h }

abbrev pub byte : ℕ → Range
byte b = range b b

abbrev pub In : Range → ℕ → Type 0
In r b = (r.low ≤ b) × (b ≤ r.high)

-- concatenation (3.1): one byte for each range, in their order
abbrev pub Row : List Range → List ℕ → Type 0
Row [] [] = Unit
Row (r ∷ rs) (b ∷ s) = In r b × Row rs s
Row [] (b ∷ s) = ⊥
Row (r ∷ rs) [] = ⊥

-- alternatives, A / B (3.2)
abbrev pub OneOf : List (List Range) → List ℕ → Type 0
OneOf [] s = ⊥
OneOf (rs ∷ rss) s = Row rs s ⊎ OneOf rss s

-- repetition, *( A ) (3.6): there are strings of A, and one after the other they are s
abbrev pub joined : List (List ℕ) → List ℕ
joined [] = []
joined (c ∷ cs) = c ++ joined cs

abbrev pub Each : (List ℕ → Type 0) → List (List ℕ) → Type 0
Each A [] = Unit
Each A (c ∷ cs) = A c × Each A cs

pub record Repeated (A : List ℕ → Type 0) (s : List ℕ) : Type 0 where
  pub strings : List (List ℕ)
  pub each : Each A strings
  pub whole : joined strings ≡ s
