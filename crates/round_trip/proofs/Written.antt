-- The writer accepts exactly where the command code fits 24 bits, every record keeps the rules and none is cut off, and the message
-- fits 24 bits and the room: the refusals' tests, turned round.
use Prim.Native.Nat.{ℕ, ◌/◌, ◌%◌, ◌≤◌}
use mathlib.Core.Path.{◌≡◌}
use mathlib.Core.Bool.{not, ◌||◌}
use mathlib.Core.List.{List, [], ◌∷◌}
use native.Mathlib.Omega.{arith}
use lib.ListN.{length}
use lib.Dec.{ltb, eqb}
use Rattle.refusal.specs.Answer.{accepted, Test, refuse}
use Rattle.refusal.specs.declared.Refusal.TheVariants.{BadHeader, BadTable, TooLong, NoRoom}
use Rattle.record.specs.Record.{record_size}
use Rattle.rfc6733.specs.Writer.{Fields, keepers, table_bytes, most24, written}
use Rattle.record.specs.Table.{table_of}
use Rattle.record.specs.Parents.{own_parents, told_parents}
use Rattle.refusal.proofs.Answers.{passed, accepts}
use Rattle.refusal.proofs.Tests.{eq_is, tests}
use Rattle.round_trip.specs.Rules.{Valid}
use Rattle.round_trip.proofs.Rules.{keepers_valid, valid_keepers, keepers_most}
use Rattle.record.proofs.Tables.{table_length}

pub record Writable (f : Fields) (table pool : List ℕ) (room : ℕ) : Type 0 where
  pub code_fits : f.code ≤ most24
  pub valid : Valid 1 (length pool) (table_of table)
  pub told : own_parents (table_of table) ≡ told_parents (table_of table)
  pub none_cut : length table % record_size ≡ 0
  pub short : length (table_bytes f table pool) ≤ most24
  pub fits : length (table_bytes f table pool) ≤ room

module _ (f : Fields) (table pool : List ℕ) (room : ℕ) where
  abbrev kept : ℕ
  kept = keepers [] 1 (length pool) (table_of table)

  abbrev total : ℕ
  total = length (table_bytes f table pool)

  abbrev refusals : List Test
  refusals =
      refuse (ltb most24 f.code) BadHeader
      ∷ refuse (ltb kept (length table / record_size) || not (eqb (length table % record_size) 0)) (BadTable kept)
      ∷ refuse (ltb most24 total) TooLong
      ∷ refuse (ltb room total) (NoRoom total)
      ∷ []

  pub writable_written : Writable f table pool room → written f table pool room ≡ accepted total
  unfolding written
  writable_written w =
      let all = valid_keepers [] 1 (length pool) (table_of table) w.valid w.told in
      let n = table_length table in
      accepts refusals total (simp (eq_is, tests) (search arith))

  pub written_writable : (n : ℕ) → written f table pool room ≡ accepted n → Writable f table pool room × (total ≡ n)
  unfolding written
  written_writable n e =
      let p = passed refusals total n e in
      let h = simp (eq_is, tests) at p.0 in
      let most = keepers_most [] 1 (length pool) (table_of table) in
      let valid = keepers_valid [] 1 (length pool) (table_of table) (omega (arith, table_length table)) in
      search
