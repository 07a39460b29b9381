-- The whole record at the front of a table: the fields that the writer takes, and the error flags and the value besides.
use Prim.Native.Nat.{ℕ}
use mathlib.Core.Path.{◌≡◌, sym, ap, ap₂, ◌∙◌}
use mathlib.Core.List.{List}
use lib.ListN.{get_or}
use Rattle.octets.specs.Octets.{be}
use Rattle.octets.proofs.Numbers.{one_byte}
use Rattle.record.specs.Record.{Record, record_at}
use Rattle.record.specs.Table.{with_both, bare, entry_at}

pub whole_is : (s : List ℕ) (r : Record) (e v : ℕ) → r ≡ entry_at s → e ≡ get_or s 18 0 → v ≡ be 8 s 24 → with_both r e v ≡ record_at s
unfolding entry_at record_at bare
whole_is s r e v taken errors value =
    ap (λ (x : Record). with_both x e v) taken
    ∙ ap₂ (with_both (entry_at s)) (errors ∙ sym (one_byte s 18)) value
