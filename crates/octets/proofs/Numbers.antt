-- Laws of numbers in bytes. A number of one byte more is the number before times 256 and the last byte, so every law is an
-- induction over the width whose step is one line of arithmetic: writing and reading are inverse, and a number looks at its own bytes alone.
use Prim.Native.Nat.{ℕ, zero, suc, ◌+◌, ◌*◌, ◌/◌, ◌%◌, ◌^◌, ◌≤◌, ◌<◌}
use mathlib.Core.Path.{◌≡◌, refl, sym, ap, ap₂, ◌∙◌}
use mathlib.Core.List.{List, [], ◌∷◌, ◌++◌, append_assoc, append-nil}
use native.Mathlib.Nat.{pow-suc, pow-succ', mod-one, div-one, div-div-eq-div-mul, zero-add, add-zero, add-suc, add_assoc, one-le-pow, zero-lt-suc, mod-lt}
use native.Mathlib.Omega.{arith}
use lib.Arith.{mod-mul, digits_div, digits_mod}
use lib.ListN.{length, get_or, take, drop, length-append, length-drop, get_or-append}
use lib.Seq.{get_or_at, get_or-append-add, get_or-take, get_or-drop, take-suc, take_all}
use Rattle.octets.specs.Octets.{be, octets, Field, field, pack, widths, Bytes, Reads}

-- ---- a number looks at its own bytes alone

pub be_same : (n : ℕ) (s t : List ℕ) (i k : ℕ) → ((j : ℕ) → j < n → get_or s (i + j) 0 ≡ get_or t (k + j) 0) → be n s i ≡ be n t k
unfolding be
be_same zero s t i k h = refl
be_same (suc n) s t i k h = ap₂ (λ (x y : ℕ). x * 256 + y) (be_same n s t i k (λ j l. h j (omega arith))) (h n (omega arith))

pub be_take : (n : ℕ) (s : List ℕ) (k i : ℕ) → i + n ≤ k → be n (take k s) i ≡ be n s i
be_take n s k i h = be_same n (take k s) s i i (λ j l. get_or-take k s (i + j) 0 (omega arith))

-- of what starts at `at`, and of a part of it
pub be_drop : (n : ℕ) (s : List ℕ) (at : ℕ) → be n (drop at s) 0 ≡ be n s at
be_drop n s at = be_same n (drop at s) s 0 at (λ j l. rw zero-add (get_or-drop at s j 0))

pub be_part : (n : ℕ) (s : List ℕ) (k at : ℕ) → n ≤ k → be n (take k (drop at s)) 0 ≡ be n s at
be_part n s k at h = be_take n (drop at s) k 0 (omega arith) ∙ be_drop n s at

pub be_front : (n : ℕ) (s t : List ℕ) (i : ℕ) → i + n ≤ length s → be n (s ++ t) i ≡ be n s i
be_front n s t i h = be_same n (s ++ t) s i i (λ j l. get_or-append s t 0 (i + j) (omega arith))

pub be_behind : (n : ℕ) (s t : List ℕ) (i : ℕ) → be n (s ++ t) (length s + i) ≡ be n t i
be_behind n s t i = be_same n (s ++ t) t (length s + i) i (λ j l. rw (add_assoc, get_or-append-add))

-- ---- numbers that code reads from single bytes

-- the n bytes of s from place i on, one by one
abbrev pub bytes : ℕ → List ℕ → ℕ → List ℕ
bytes zero s i = []
bytes (suc n) s i = get_or s i 0 ∷ bytes n s (i + 1)

byte_at : (n : ℕ) (s : List ℕ) (i j : ℕ) → j < n → get_or (bytes n s i) j 0 ≡ get_or s (i + j) 0
byte_at zero s i j h = absurd (omega arith)
byte_at (suc n) s i zero h = rw add-zero
byte_at (suc n) s i (suc j) h = byte_at n s (i + 1) j (omega arith) ∙ ap (λ (k : ℕ). get_or s k 0) (omega arith)

pub read_at : (n : ℕ) (s : List ℕ) (i r : ℕ) → Reads n (bytes n s i) r → r ≡ be n s i
read_at n s i r h = h.is ∙ be_same n (bytes n s i) s 0 i (λ j l. rw zero-add (byte_at n s i j l))

-- the high bytes and the low ones
pub read_parts : (m n : ℕ) (s : List ℕ) (i : ℕ) → be (m + n) s i ≡ be m s i * 256 ^ n + be n s (i + m)
unfolding be
read_parts m zero s i = rw (add-zero m) (omega arith)
read_parts m (suc n) s i = rw (add-suc, read_parts m n s i, pow-suc, add_assoc) (omega arith)

pub one_byte : (s : List ℕ) (i : ℕ) → be 1 s i ≡ get_or s i 0
unfolding be
one_byte s i = simp (add-zero, zero-add)

-- ---- lengths and bounds

pub length_octets : (n v : ℕ) → length (octets n v) ≡ n
unfolding octets
length_octets zero v = refl
length_octets (suc n) v = simp length-append (omega (arith, length_octets n (v / 256)))

pub length_pack : (fs : List Field) → length (pack fs) ≡ widths fs
length_pack [] = refl
length_pack (f ∷ fs) = simp length-append (omega (arith, length_octets f.width f.number, length_pack fs))

pub be_small : (n : ℕ) (s : List ℕ) (i : ℕ) → Bytes s → be n s i < 256 ^ n
unfolding be
be_small zero s i h = omega arith
be_small (suc n) s i h = rw pow-suc (omega (arith, be_small n s i h, h (i + n)))

-- ---- writing and reading are inverse

pub read_written : (n v : ℕ) → be n (octets n v) 0 ≡ v % 256 ^ n
unfolding be octets
read_written zero v = sym (mod-one v)
read_written (suc n) v =
    let w = octets n (v / 256) in
    let l = length_octets n (v / 256) in
    let positive : 0 < 256 ^ n = one-le-pow n 256 (omega arith) in
    rw (
      be_front n w (v % 256 ∷ []) 0 (omega arith),
      read_written n (v / 256),
      zero-add,
      get_or_at w (v % 256) [] 0 n l,
      pow-suc,
      mod-mul v positive (zero-lt-suc 255),
    )

pub written_read : (n : ℕ) (s : List ℕ) (i : ℕ) → i + n ≤ length s → Bytes s → octets n (be n s i) ≡ take n (drop i s)
unfolding be octets
written_read zero s i h b = refl
written_read (suc n) s i h b =
    let x = be n s i in
    let c = get_or s (i + n) 0 in
    let high : (x * 256 + c) / 256 ≡ x = omega (arith, b (i + n)) in
    let low : (x * 256 + c) % 256 ≡ c = omega (arith, b (i + n)) in
    rw (high, low, take-suc (drop i s) n 0 (omega (arith, length-drop i s)), get_or-drop, written_read n s i (omega arith) b)

-- ---- a field of a layout is the number that was packed

pub read_field : (before : List Field) (w v : ℕ) (rest : List Field) (more : List ℕ)
    → be w (pack (before ++ (field w v ∷ rest)) ++ more) (widths before) ≡ v % 256 ^ w
read_field [] w v rest more =
    rw (append_assoc, be_front w (octets w v) (pack rest ++ more) 0 (omega (arith, length_octets w v)), read_written)
read_field (f ∷ fs) w v rest more =
    let o = octets f.width f.number in
    let at : f.width + widths fs ≡ length o + widths fs = omega (arith, length_octets f.width f.number) in
    rw (append_assoc, at, be_behind) (read_field fs w v rest more)

-- ---- the parts of a number

pub bytes_append : (s t : List ℕ) → Bytes s → Bytes t → Bytes (s ++ t)
bytes_append [] t hs ht i = ht i
bytes_append (x ∷ s) t hs ht zero = hs 0
bytes_append (x ∷ s) t hs ht (suc i) = bytes_append s t (λ j. hs (suc j)) ht i

single_byte : (v : ℕ) → v < 256 → Bytes (v ∷ [])
single_byte v h zero = h
single_byte v h (suc i) = omega arith

pub octets_bytes : (n v : ℕ) → Bytes (octets n v)
unfolding octets
octets_bytes zero v i = omega arith
octets_bytes (suc n) v i =
    bytes_append (octets n (v / 256)) (v % 256 ∷ []) (octets_bytes n (v / 256)) (single_byte (v % 256) (omega arith)) i

-- only the lowest n bytes are written
pub written_low : (n v : ℕ) → octets n (v % 256 ^ n) ≡ octets n v
written_low n v =
    let l = length_octets n v in
    rw (← read_written, written_read n (octets n v) 0 (omega arith) (octets_bytes n v), take_all n (octets n v) (omega arith))

-- the high bytes and the low ones
pub written_parts : (m n v : ℕ) → octets (m + n) v ≡ octets m (v / 256 ^ n) ++ octets n v
unfolding octets
written_parts m zero v = rw (add-zero, append-nil, div-one)
written_parts m (suc n) v = rw (add-suc, written_parts m n (v / 256), append_assoc, div-div-eq-div-mul, pow-succ')

-- the two parts of a number written as one
pub written_joined : (m n h l : ℕ) → octets (m + n) (h * 256 ^ n + l % 256 ^ n) ≡ octets m h ++ octets n l
written_joined m n h l =
    let k = 256 ^ n in
    let v = h * k + l % k in
    let small : l % k < k = mod-lt l (one-le-pow n 256 (omega arith)) in
    rw (written_parts, digits_div h small, ← written_low n v, digits_mod h small, written_low)
