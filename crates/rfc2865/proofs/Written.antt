-- The writer accepts exactly where every record keeps the rules and none is cut off, and the packet fits its largest length and the room:
-- the refusals' tests, turned round.
use Prim.Native.Nat.{ℕ, ◌%◌, ◌≤◌}
use mathlib.Core.Path.{◌≡◌}
use mathlib.Core.List.{List, [], ◌∷◌}
use native.Mathlib.Omega.{arith}
use lib.ListN.{length}
use lib.Dec.{ltb}
use Rattle.refusal.specs.Answer.{accepted, Test, refuse}
use Rattle.refusal.specs.declared.Refusal.TheVariants.{TooLong, NoRoom}
use Rattle.refusal.proofs.Answers.{passed, accepts}
use Rattle.refusal.proofs.Tests.{eq_is, tests}
use Rattle.record.specs.Record.{record_size}
use Rattle.record.specs.Table.{table_of, bad_table}
use Rattle.record.proofs.Tables.{table_length}
use Rattle.rfc2865.specs.Packet.{Header, most_packet}
use Rattle.rfc2865.specs.Writer.{keepers, table_bytes, written}
use Rattle.rfc2865.proofs.Rules.{Kept, kept_keepers, keepers_kept}

pub record Writable (h : Header) (table pool : List ℕ) (room : ℕ) : Type 0 where
  pub kept : Kept (length pool) (table_of table)
  pub none_cut : length table % record_size ≡ 0
  pub short : length (table_bytes h table pool) ≤ most_packet
  pub fits : length (table_bytes h table pool) ≤ room

module _ (h : Header) (table pool : List ℕ) (room : ℕ) where
  abbrev total : ℕ
  total = length (table_bytes h table pool)

  abbrev refusals : List Test
  refusals =
      bad_table (keepers (length pool) (table_of table)) table
      ∷ refuse (ltb most_packet total) TooLong
      ∷ refuse (ltb room total) (NoRoom total)
      ∷ []

  pub writable_written : Writable h table pool room → written h table pool room ≡ accepted total
  unfolding written
  writable_written w =
      let all = kept_keepers (length pool) (table_of table) w.kept in
      let n = table_length table in
      accepts refusals total (simp (eq_is, tests) (search arith))

  pub written_writable : (n : ℕ) → written h table pool room ≡ accepted n → Writable h table pool room × (total ≡ n)
  unfolding written
  written_writable n e =
      let p = passed refusals total n e in
      let t = simp (eq_is, tests) at p.0 in
      let kept = keepers_kept (length pool) (table_of table) (omega (arith, table_length table)) in
      search
