-- The answer by cases: which facts lead to which, in the order of the refusals, whatever the header's other fields and
-- the bytes are. The message of a table that keeps the rules is as long as the sum of what its records put, and its
-- header.
use Prim.Native.Nat.{ℕ, ◌+◌, ◌-◌, ◌/◌, ◌%◌, ◌≤◌, ◌<◌}
use mathlib.Core.Path.{◌≡◌, ◌∙◌}
use mathlib.Core.Bool.{not}
use mathlib.Core.List.{List, [], ◌∷◌}
use native.Mathlib.Omega.{arith}
use lib.Dec.{ltb, eqb}
use lib.ListN.{length}
use borrow.Author.Tests.{lt-ltb, le-ltb, eq-eqb, ne_eqb}
use Rattle.std.specs.Prelude.{Ok, Err}
use Rattle.refusal.specs.Answer.{accepted, refused, refuse, answer}
use Rattle.refusal.specs.declared.Refusal.TheVariants.{BadHeader, BadTable, TooLong, NoRoom}
use Rattle.record.specs.Record.{Record, record_size}
use Rattle.record.specs.Table.{table_of}
use Rattle.record.proofs.Tables.{table_length}
use Rattle.rfc6733.specs.Writer.{Fields, keepers, table_bytes, most24, written}
use Rattle.round_trip.specs.Rules.{Valid}
use Rattle.round_trip.proofs.Rules.{Told, keepers_valid}
use Rattle.round_trip.proofs.Lengths.{total_size}
use Rattle.rules.specs.Checking.{own_sizes, checked_of}
use Rattle.rules.specs.declared.BadRecord.{BadRecord}
use Rattle.rules.proofs.Answered.{Takes, was_bad, was_good}
use Rattle.writable.specs.Answers.{AnswerFor}
use Rattle.rules.proofs.Sums.{sum_is}

total_is : (f : Fields) (table pool : List ℕ) → Valid 1 (length pool) (table_of table)
    → length (table_bytes f table pool) ≡ 20 + own_sizes (table_of table)
total_is f table pool v = rw (sum_is 1 (length pool) (table_of table) v) (total_size f table pool v)

module _ (code : ℕ) (table : List ℕ) (available room : ℕ) where
  pub bad_header : most24 < code → AnswerFor code table available room (refused BadHeader)
  unfolding written
  bad_header h f pool e l = simp (lt-ltb most24 f.code (rw e h))

  module _ (fits : code ≤ most24) where
    abbrev rs : List Record
    rs = table_of table

    abbrev count : ℕ
    count = length table / record_size

    pub bad_record : (bad : BadRecord) → Err bad ≡ checked_of available rs
        → AnswerFor code table available room (refused (BadTable bad.0))
    unfolding written
    bad_record bad is f pool e l =
        let r = was_bad available rs bad.0 is in
        let some : keepers [] 1 available rs < count =
        omega (arith, r.kept_is, r.some, table_length table)
        in
        rw (le-ltb most24 f.code (rw e fits), l, lt-ltb _ _ some, r.kept_is)

    -- ---- all its records keep the rules

    module _ (size : ℕ) (good : Ok size ≡ checked_of available rs) where
      taken : Takes available rs size
      taken = was_good available rs size good

      kept : keepers [] 1 available rs ≡ count
      kept = taken.kept_is ∙ table_length table

      all_kept : Valid 1 available rs × Told [] rs
      all_kept = keepers_valid [] 1 available rs taken.kept_is

      -- so only the bytes that are left over and the message's length are still to be asked
      abbrev total : ℕ
      total = 20 + own_sizes rs

      sized : (f : Fields) (pool : List ℕ) → f.code ≡ code → length pool ≡ available
          → written f table pool room
          ≡ answer
          (refuse (not (eqb (length table % record_size) 0)) (BadTable count)
          ∷ refuse (ltb most24 total) TooLong
          ∷ refuse (ltb room total) (NoRoom total)
          ∷ [])
          total
      unfolding written
      sized f pool e l =
          rw (
            le-ltb most24 f.code (rw e fits),
            l,
            kept,
            le-ltb count count (omega arith),
            total_is f table pool (rw l all_kept.0),
          )

      pub cut_off : (length table % record_size ≡ 0 → ⊥) → AnswerFor code table available room (refused (BadTable count))
      cut_off h f pool e l = rw (sized f pool e l, ne_eqb _ 0 h)

      module _ (none_cut : length table % record_size ≡ 0) where
        pub too_long : most24 - 20 < size → AnswerFor code table available room (refused TooLong)
        too_long h f pool e l =
            rw (sized f pool e l, eq-eqb _ 0 none_cut, lt-ltb most24 total (omega (arith, taken.size_is)))

        module _ (short : size ≤ most24 - 20) where
          size_is : own_sizes rs ≡ size
          size_is = omega (arith, taken.size_is)

          pub no_room : room < 20 + size → AnswerFor code table available room (refused (NoRoom (20 + size)))
          no_room h f pool e l =
              rw (
                sized f pool e l,
                eq-eqb _ 0 none_cut,
                size_is,
                le-ltb most24 (20 + size) (omega arith),
                lt-ltb room (20 + size) h,
              )

          pub fits_room : 20 + size ≤ room → AnswerFor code table available room (accepted (20 + size))
          fits_room h f pool e l =
              rw (
                sized f pool e l,
                eq-eqb _ 0 none_cut,
                size_is,
                le-ltb most24 (20 + size) (omega arith),
                le-ltb room (20 + size) h,
              )
