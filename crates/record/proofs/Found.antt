-- A record that stands before its value is known: what was found is put at its places, and the bytes are those of the record with it.
use Prim.Native.Nat.{ℕ, ◌≤◌}
use mathlib.Core.Path.{◌≡◌, refl, sym, ap, ◌∙◌}
use mathlib.Core.List.{List, [], ◌++◌, append-nil}
use native.Mathlib.Omega.{arith}
use lib.ListN.{length, take, drop}
use lib.Seq.{length-take-le, drop-length}
use Rattle.octets.specs.Octets.{octets, over}
use Rattle.record.specs.Record.{Record, record_size, record_bytes}
use Rattle.record.specs.Store.{put, put_found}
use Rattle.record.specs.Table.{with_found}
use Rattle.record.proofs.Room.{put_with_room}

pub found_in : (r : Record) (kind errors value : ℕ) → put_found kind errors value (record_bytes r) ≡ record_bytes (with_found r kind errors value)
unfolding put_found record_bytes octets
found_in r kind errors value = refl

-- a record over a part of a store that is just as long
pub put_on_part : (r : Record) (s : List ℕ) → record_size ≤ length s → put r (take record_size s) ≡ record_bytes r
unfolding over record_bytes octets
put_on_part r s room =
    let size = length-take-le record_size s room in
    let none : drop record_size (take record_size s) ≡ [] = sym (ap (λ (n : ℕ). drop n (take record_size s)) size) ∙ drop-length (take record_size s) in
    put_with_room r (take record_size s) (omega arith) ∙ ap (λ (rest : List ℕ). record_bytes r ++ rest) none ∙ append-nil (record_bytes r)
