-- A table cut into its records, as `chunks_exact` cuts it: a chunk is the next record, and what is left has the others.
use Prim.Native.Nat.{ℕ, ◌+◌, ◌≤◌}
use mathlib.Core.Path.{◌≡◌, refl, ap, ◌∙◌}
use mathlib.Core.List.{List, [], ◌∷◌, ◌++◌}
use native.Mathlib.Omega.{arith}
use lib.ListN.{length, length-append}
use lib.Seq.{drop_at}
use denote.Ref.{Bor}
use Rattle.std.specs.Prelude.{Some, None}
use Rattle.std.specs.Slice.Iter.{chunks_exact_rest, chunks_exact_size, chunks_exact_steps}
use Rattle.std.proofs.lemmas.Iterator.{YieldsList}
use Rattle.std.proofs.lemmas.Iterator.Splits.{YieldsList-from_shown_while}
use Rattle.octets.specs.Octets.{total, unpack}
use Rattle.octets.proofs.Numbers.{be_front}
use Rattle.record.specs.Record.{record_layout, record_size, record_at}
use Rattle.record.specs.Table.{bare, entry_at, table_of}
use Rattle.record.proofs.Tables.{table_none, table_some}

unpack_front : (ws : List ℕ) (s t : List ℕ) (i : ℕ) → i + total ws ≤ length s → unpack ws (s ++ t) i ≡ unpack ws s i
unpack_front [] s t i h = refl
unpack_front (w ∷ ws) s t i h = rw (be_front w s t i (omega arith), unpack_front ws s t (i + w) (omega arith))

module _ (row more : List ℕ) (whole : length row ≡ record_size) where
  front : entry_at (row ++ more) ≡ entry_at row
  unfolding entry_at record_at
  front = ap (λ (ns : List ℕ). bare (record_layout.made ns)) (unpack_front record_layout.sizes row more 0 (omega arith))

  next_row : table_of (row ++ more) ≡ entry_at row ∷ table_of more
  next_row =
      rw (table_some (row ++ more) (omega (arith, length-append row more)), front, drop_at row more record_size whole)

-- a chunk is the first record of what was left
pub turn : (s t : _) (row : Bor (List ℕ)) → chunks_exact_size s ≡ record_size → chunks_exact_steps s (Some row) t
    → table_of (chunks_exact_rest s) ≡ entry_at row.now ∷ table_of (chunks_exact_rest t)
turn s t row cut e = rw (e.1.0) (next_row row.now (chunks_exact_rest t) (e.1.1 ∙ cut))

-- where there is no chunk, no record is left
pub ended : (s t : _) → chunks_exact_size s ≡ record_size → chunks_exact_steps s None t
    → table_of (chunks_exact_rest s) ≡ []
ended s t cut e = table_none (chunks_exact_rest s) (omega (arith, e.1.0))

-- all of them
pub rows : {s : _} (table : List ℕ) → chunks_exact_rest s ≡ table → chunks_exact_size s ≡ record_size
    → YieldsList chunks_exact_steps (λ row. entry_at row.now) s (table_of table)
rows {s} table rest cut =
    rw (← rest)
    (YieldsList-from_shown_while chunks_exact_steps (λ row. entry_at row.now) (λ t. table_of (chunks_exact_rest t))
    (λ t. chunks_exact_size t ≡ record_size) (λ t u h e. ap length (ended t u h e))
    (λ t row u h e. (e.0 ∙ h, turn t u row h e)) s cut)
