-- Numbers in bytes, the highest byte first (RFC 6733, section 3: network byte order), said once over the width; and layouts of them.
use Rattle.std.specs.Prelude.{ℕ, zero, suc, ◌+◌, ◌*◌, ◌/◌, ◌%◌, ◌^◌, ◌<◌, ◌≡◌, cond, List, [], ◌∷◌, ◌++◌, length, get_or, drop, leb}

-- reading: the number that n bytes write, from place i on. A byte that is absent counts as 0
unfoldable pub be : ℕ → List ℕ → ℕ → ℕ
be zero s i = 0
be (suc n) s i = be n s i * 256 + get_or s (i + n) 0

-- writing: the lowest n bytes of a number
unfoldable pub octets : ℕ → ℕ → List ℕ
octets zero v = []
octets (suc n) v = octets n (v / 256) ++ (v % 256 ∷ [])

-- A field of a layout: how many bytes, and the number in them.
pub record Field : Type 0 where
  pub width : ℕ
  pub number : ℕ

abbrev pub field : ℕ → ℕ → Field
field w v = record { width = w; number = v }

-- the fields of a layout, one after the other
abbrev pub pack : List Field → List ℕ
pack [] = []
pack (f ∷ fs) = octets f.width f.number ++ pack fs

-- how many bytes they take
abbrev pub widths : List Field → ℕ
widths [] = 0
widths (f ∷ fs) = f.width + widths fs

-- A layout: how wide each number is, the numbers of a value, and the value of some numbers. It is read and written by the same list.
pub record Layout (A : Type 0) : Type 0 where
  pub sizes : List ℕ
  pub numbers : A → List ℕ
  pub made : List ℕ → A

-- how many bytes some widths take
abbrev pub total : List ℕ → ℕ
total [] = 0
total (w ∷ ws) = w + total ws

-- numbers of some widths as fields; one that is absent counts as 0
abbrev pub fields : List ℕ → List ℕ → List Field
fields [] ns = []
fields (w ∷ ws) [] = field w 0 ∷ fields ws []
fields (w ∷ ws) (n ∷ ns) = field w n ∷ fields ws ns

-- the numbers of some widths that stand in s from place i on
abbrev pub unpack : List ℕ → List ℕ → ℕ → List ℕ
unpack [] s i = []
unpack (w ∷ ws) s i = be w s i ∷ unpack ws s (i + w)

-- the fields of a value
abbrev pub fields_of : {A : Type 0} → Layout A → A → List Field
fields_of L x = fields L.sizes (L.numbers x)

-- the value at the front of s
abbrev pub value_at : {A : Type 0} → Layout A → List ℕ → A
value_at L s = L.made (unpack L.sizes s 0)

-- the lowest bytes of each number
abbrev pub low : List ℕ → List ℕ → List ℕ
low [] ns = []
low (w ∷ ws) [] = 0 % 256 ^ w ∷ low ws []
low (w ∷ ws) (n ∷ ns) = n % 256 ^ w ∷ low ws ns

-- each number is less than its width allows, and there are as many as widths
abbrev pub Fit : List ℕ → List ℕ → Type 0
Fit [] [] = Unit {0}
Fit [] (n ∷ ns) = ⊥
Fit (w ∷ ws) [] = ⊥
Fit (w ∷ ws) (n ∷ ns) = (n < 256 ^ w) × Fit ws ns

-- some bytes over the front of others
unfoldable pub over : List ℕ → List ℕ → List ℕ
over new old = new ++ drop (length new) old

-- the same, where there is room for all of them
unfoldable pub put_all : List ℕ → List ℕ → List ℕ
put_all new old = cond (leb (length new) (length old)) (over new old) old

-- n bytes were put over the front of others, and they are bs
pub record Put (n : ℕ) (bs before after : List ℕ) : Type 0 where
  pub size_is : n ≡ length bs
  pub out_is : after ≡ over bs before

-- every number of a list is a byte
abbrev pub Bytes : List ℕ → Type 0
Bytes s = (i : ℕ) → get_or s i 0 < 256

-- r is the number that the n bytes of s write
pub record Reads (n : ℕ) (s : List ℕ) (r : ℕ) : Type 0 where
  pub is : r ≡ be n s 0
  pub small : r < 256 ^ n
