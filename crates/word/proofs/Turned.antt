-- The bytes of a number turned round: a number that is read from them has just these bytes, since writing gives back what was read.
use Prim.Native.Nat.{ℕ, zero, suc, ◌<◌}
use mathlib.Core.Path.{◌≡◌, ap, ◌∙◌}
use mathlib.Core.List.{List, [], ◌∷◌, reverse, reverse_aux}
use native.Mathlib.Omega.{arith}
use lib.ListN.{length, length-reverse}
use lib.Seq.{take_all}
use Rattle.octets.specs.Octets.{octets, Bytes, Reads}
use Rattle.octets.proofs.Numbers.{length_octets, octets_bytes, written_read}

byte_before : (b : ℕ) (s : List ℕ) → b < 256 → Bytes s → Bytes (b ∷ s)
byte_before b s hb hs zero = hb
byte_before b s hb hs (suc i) = hs i

turned_bytes : (s t : List ℕ) → Bytes s → Bytes t → Bytes (reverse_aux s t)
turned_bytes [] t hs ht = ht
turned_bytes (b ∷ s) t hs ht = turned_bytes s (b ∷ t) (λ i. hs (suc i)) (byte_before b t (hs 0) ht)

pub turned : (n v r : ℕ) → Reads n (reverse (octets n v)) r → octets n r ≡ reverse (octets n v)
turned n v r h =
    let s = reverse (octets n v) in
    let size : length s ≡ n = length-reverse (octets n v) ∙ length_octets n v in
    ap (octets n) h.is
    ∙ written_read n s 0 (omega arith) (turned_bytes (octets n v) [] (octets_bytes n v) (λ i. omega arith))
    ∙ take_all n s (omega arith)
