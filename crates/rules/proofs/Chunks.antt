-- The whole chunks of a table, each as long as a record, are its records: an iterator over them gives the records of
-- the table in order.
use Prim.Native.Nat.{ℕ, ◌≤◌}
use mathlib.Core.Path.{◌≡◌, ◌∙◌}
use mathlib.Core.List.{List, ◌∷◌, ◌++◌}
use native.Mathlib.Omega.{arith}
use lib.ListN.{length, length-append}
use lib.Seq.{drop_at}
use Rattle.std.specs.Slice.Iter.{chunks_exact_rest, chunks_exact_size, chunks_exact_steps}
use Rattle.std.proofs.lemmas.Iterator.{YieldsList}
use Rattle.std.proofs.lemmas.Iterator.Splits.{YieldsList-from_shown_while}
use Rattle.record.specs.Record.{record_size}
use Rattle.record.specs.Table.{entry_at, table_of}
use Rattle.record.proofs.Tables.{table_none, table_some}
use Rattle.rules.proofs.Entries.{entry_front}

-- a row and what is behind it
row_read : (row rest : List ℕ) → length row ≡ record_size → table_of (row ++ rest) ≡ entry_at row ∷ table_of rest
row_read row rest l =
    let long : record_size ≤ length (row ++ rest) = omega (arith, length-append row rest) in
    table_some (row ++ rest) long ∙ rw (drop_at row rest record_size l, entry_front row rest l)

pub records_from_chunks : {s : _} (table : List ℕ) → chunks_exact_rest s ≡ table → chunks_exact_size s ≡ record_size
    → YieldsList (chunks_exact_steps {A = ℕ}) (λ x. entry_at x.now) s (table_of table)
records_from_chunks {s} table is size =
    rw (← is)
    (YieldsList-from_shown_while (chunks_exact_steps {A = ℕ}) (λ x. entry_at x.now) (λ t. table_of (chunks_exact_rest t))
    (λ t. chunks_exact_size t ≡ record_size)
    (λ t u fixed step. rw (table_none (chunks_exact_rest t) (omega arith)))
    (λ t x u fixed step.
    (step.0 ∙ fixed, rw step.1.0 (row_read x.now (chunks_exact_rest u) (step.1.1 ∙ fixed)))) s size)
