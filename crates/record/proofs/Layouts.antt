-- A record takes 36 bytes, and n records 36 times n: the widths of its layout add up.
use Prim.Native.Nat.{ℕ, ◌*◌}
use mathlib.Core.Path.{◌≡◌, refl, sym, ap, ◌∙◌}
use mathlib.Core.List.{List, [], ◌∷◌, ◌++◌, append_assoc}
use native.Mathlib.Omega.{arith}
use lib.ListN.{length, length-append}
use Rattle.octets.proofs.Numbers.{length_pack}
use Rattle.record.specs.Record.{Record, record_size, layout, record_bytes, laid}

pub record_length : (r : Record) → length (record_bytes r) ≡ record_size
unfolding record_bytes
record_length r = length_pack (layout r)

pub laid_length : (rs : List Record) → length (laid rs) ≡ record_size * length rs
laid_length [] = refl
laid_length (r ∷ rs) = length-append (record_bytes r) (laid rs) ∙ omega (arith, record_length r, laid_length rs)

pub laid_append : (rs ts : List Record) → laid (rs ++ ts) ≡ laid rs ++ laid ts
laid_append [] ts = refl
laid_append (r ∷ rs) ts = ap (λ (x : List ℕ). record_bytes r ++ x) (laid_append rs ts) ∙ sym (append_assoc (record_bytes r) (laid rs) (laid ts))
