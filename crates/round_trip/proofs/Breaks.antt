-- Every record of a run tells where its text broke: its value is what was read of its data, and those stand at its place. Of a group there is no
-- number to tell.
use Prim.Native.Nat.{ℕ}
use mathlib.Core.Path.{◌≡◌, sym, ◌∙◌}
use mathlib.Core.Bool.{true, false}
use mathlib.Core.List.{List}
use lib.Dec.{eqb}
use borrow.Author.Tests.{eqb-true}
use Rattle.octets.specs.Octets.{Bytes}
use Rattle.octets.specs.Run.{Tree}
use Rattle.octets.proofs.Runs.{false_true}
use Rattle.record.specs.Kinds.{grouped}
use Rattle.record.specs.Table.{Every}
use Rattle.rfc6733.specs.Avp.{payload}
use Rattle.rfc6733.specs.Value.{texts, one_of}
use Rattle.rfc6733.specs.Dictionary.{Dictionary}
use Rattle.rfc6733.specs.Records.{avp_kind, value_of, group_value, record_of}
use Rattle.rfc6733.specs.Decoder.{run_records}
use Rattle.rfc6733.specs.Broken.{TellsBreak}
use Rattle.rfc6733.specs.Writer.{head_of, stated_data}
use Rattle.rfc6733.proofs.Breaks as values
use Rattle.rfc6733.proofs.Breaks.{group_silent}
use Rattle.record.proofs.Breaks.{Silent}
use Rattle.octets.proofs.Held.{Holds}
use Rattle.round_trip.proofs.EveryRecord.{Stands, data_is, every_run}

module _ (D : Dictionary) (silent : (s : List ℕ) → Silent (D.as_address s)) (pool : List ℕ) where
  of_leaf : (place depth : ℕ) (a : List ℕ) → Stands pool place a → TellsBreak D pool (record_of place depth a (value_of D a))
  unfolding record_of value_of avp_kind
  of_leaf place depth a st =
      let s = payload a in
      record {
        of_text = λ t is. rw (data_is place depth a (value_of D a) st) (values.of_text D.as_address (avp_kind D a) s t is);
        of_others = λ t. (values.of_others D.as_address (avp_kind D a) s (silent s) t).zero;
      }

  of_group : (place depth : ℕ) (a : List ℕ) (inner : Tree) → eqb (avp_kind D a) grouped ≡ true → TellsBreak D pool (record_of place depth a (group_value D inner))
  unfolding record_of avp_kind
  of_group place depth a inner e =
      let none : one_of (avp_kind D a) texts ≡ false = rw (eqb-true (avp_kind D a) grouped e) in
      record {
        of_text = λ t is. absurd (false_true (sym none ∙ t));
        of_others = λ t. (group_silent D inner).zero;
      }

  pub every_tells : Bytes pool → (s : List ℕ) (place : ℕ) → Holds pool place s → Every (TellsBreak D pool) (run_records D place s)
  unfolding stated_data head_of
  every_tells bytes =
      every_run D pool (TellsBreak D pool) bytes (λ place depth a st e. of_leaf place depth a st)
      (λ place depth a inner st e. of_group place depth a inner e)
      (λ p r t. record { of_text = t.of_text; of_others = t.of_others })
