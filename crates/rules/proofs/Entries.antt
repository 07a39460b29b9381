-- A record is read from its own bytes of a table alone, as `&table[at..at + Record::SIZE]` lends them. So a loop that
-- takes each record from there goes through the table record by record.
use Prim.Native.Nat.{ℕ, ◌+◌, ◌-◌, ◌*◌, ◌/◌, ◌≤◌, ◌<◌}
use mathlib.Core.Path.{◌≡◌, refl, sym, ap, ap₂, ◌∙◌}
use mathlib.Core.List.{List, [], ◌∷◌, ◌++◌}
use native.Mathlib.Omega.{arith}
use lib.ListN.{length, take}
use lib.Seq.{take_at}
use Rattle.octets.specs.Octets.{total, unpack}
use Rattle.octets.proofs.Numbers.{be_take}
use Rattle.octets.proofs.Lists.{rest}
use Rattle.record.specs.Record.{Record, record_layout, record_size, record_at}
use Rattle.record.specs.Table.{bare, entry_at, table_of}
use Rattle.record.proofs.Steps.{from, next}

unpack_take : (ws s : List ℕ) (n i : ℕ) → i + total ws ≤ n → unpack ws (take n s) i ≡ unpack ws s i
unpack_take [] s n i h = refl
unpack_take (w ∷ ws) s n i h = ap₂ ◌∷◌ (be_take w s n i (omega arith)) (unpack_take ws s n (i + w) (omega arith))

-- with whatever is behind it
pub entry_front : (row rest : List ℕ) → length row ≡ record_size → entry_at (row ++ rest) ≡ entry_at row
unfolding entry_at record_at
entry_front row rest l =
    let front : take record_size (row ++ rest) ≡ row = take_at row rest record_size l in
    ap (λ (ns : List ℕ). bare (record_layout.made ns))
    (sym (unpack_take record_layout.sizes (row ++ rest) record_size 0 (omega arith))
    ∙ ap (λ (t : List ℕ). unpack record_layout.sizes t 0) front)

pub entry_part : (s : List ℕ) (at : ℕ) → entry_at (take (at + record_size - at) s) ≡ entry_at s
unfolding entry_at record_at
entry_part s at =
    ap (λ (ns : List ℕ). bare (record_layout.made ns))
    (unpack_take record_layout.sizes s (at + record_size - at) 0 (omega arith))

pub next_part : (table : List ℕ) (k : ℕ) {r : Record} → k < length table / record_size
    → r ≡ entry_at (take (k * record_size + record_size - k * record_size) (from table k))
    → table_of (from table k) ≡ r ∷ table_of (from table (k + 1))
next_part table k some read =
    let at = k * record_size in
    next table k some (read ∙ entry_part (from table k) at ∙ ap entry_at (sym (rest table at (omega arith))))
