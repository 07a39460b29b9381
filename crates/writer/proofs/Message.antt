-- The message of a table that keeps the rules: the whole table is one run, and its AVPs are put first and the header
-- before them.
use Prim.Native.Nat.{ℕ, ◌+◌, ◌-◌, ◌≤◌}
use mathlib.Core.Path.{◌≡◌, refl, ap, ◌∙◌}
use mathlib.Core.List.{List, ◌++◌}
use native.Mathlib.Omega.{arith}
use lib.ListN.{length, take, drop}
use borrow.Rule.Slice.PartMut.{put_mid}
use borrow.Author.Tests.{le-leb}
use Rattle.octets.specs.Octets.{pack, over}
use Rattle.octets.proofs.Numbers.{length_pack}
use Rattle.octets.proofs.Lists.{over_before, lent}
use Rattle.record.specs.Forest.{Forest, none, node, leading, forest}
use Rattle.record.specs.Table.{table_of}
use Rattle.rfc6733.specs.Writer.{Fields, forest_bytes, message_bytes, table_bytes, header_fields}
use Rattle.round_trip.specs.Rules.{Valid, Kept}
use Rattle.round_trip.specs.Tables.{run}
use Rattle.round_trip.proofs.Kept.{valid_kept}
use Rattle.round_trip.proofs.Lengths.{message_length_lem}
use Rattle.writer.specs.declared.emit.Taken.{Taken}
use Rattle.writer.specs.Emitting.{Done}

-- ---- the whole table is one run

leading_all : (n : ℕ) (f : Forest) → Kept n f → leading 1 f ≡ f
leading_all n none k = refl
leading_all n (node r i t) k = rw (le-leb 1 r.depth k.0.some) (ap (node r i) (leading_all n t k.2))

run_all : (n : ℕ) (table : List ℕ) → Valid 1 n (table_of table) → run 1 table ≡ forest (table_of table)
unfolding run
run_all n table v = leading_all n (forest (table_of table)) (valid_kept 1 n (table_of table) v)

-- ---- the message

module _ (f : Fields) (table pool : List ℕ) (v : Valid 1 (length pool) (table_of table)) where
  pub message_long : length (table_bytes f table pool) ≡ 20 + length (forest_bytes pool (run 1 table))
  unfolding table_bytes
  message_long = rw (message_length_lem, run_all (length pool) table v)

  message_is : (n : ℕ) → length (table_bytes f table pool) ≡ n
      → pack (header_fields f n) ++ forest_bytes pool (run 1 table) ≡ table_bytes f table pool
  unfolding table_bytes message_bytes
  message_is n e =
      let z : n ≡ 20 + length (forest_bytes pool (run 1 table)) = omega (arith, message_long) in
      ap (λ (x : ℕ). pack (header_fields f x) ++ forest_bytes pool (run 1 table)) z
      ∙ ap (λ (x : Forest). message_bytes f (forest_bytes pool x)) (run_all (length pool) table v)

  -- the AVPs first, into the part after the header, and then the header
  pub message_put : (t : Taken) (before back last : List ℕ) (n : ℕ) → 20 ≤ length before → length (table_bytes f table pool) ≡ n
      → Done (run 1 table) pool t (drop 20 before) back
      → last ≡ over (pack (header_fields f n)) (put_mid 20 (length before - 20) before back)
      → last ≡ over (table_bytes f table pool) before
  message_put t before back last n room e d put =
      put
      ∙ ap (over (pack (header_fields f n))) (lent 20 before back ∙ ap (λ (x : List ℕ). take 20 before ++ x) d.out_is)
      ∙ over_before (pack (header_fields f n)) (forest_bytes pool (run 1 table)) before 20 (length_pack (header_fields f n)) room
      ∙ ap (λ (x : List ℕ). over x before) (message_is n e)
