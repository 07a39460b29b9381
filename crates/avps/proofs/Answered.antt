-- A run that fits is answered with its counts, and one that doesn't is refused as it was when it was counted; and a store that was filled
-- and cleared is the one that the answer leaves.
use Prim.Native.Nat.{ℕ, ◌+◌, ◌≤◌}
use mathlib.Core.Path.{◌≡◌, sym, ◌∙◌}
use mathlib.Core.Bool.{true}
use mathlib.Core.List.{List}
use lib.ListN.{length}
use Rattle.octets.specs.Run.{Tree, tree}
use Rattle.refusal.specs.Answer.{answer, refused}
use Rattle.refusal.specs.declared.Refusal.{Refusal}
use Rattle.refusal.proofs.Answers as answers
use Rattle.refusal.proofs.Answers.{answer_alike}
use Rattle.rfc6733.specs.Dictionary.{Dictionary}
use Rattle.rfc6733.specs.Records.{avps, errors}
use Rattle.rfc6733.specs.Decoder.{allowed, run_records, run_counts, run_refusals}
use Rattle.record.specs.Store.{stored}
use Rattle.std.specs.Prelude.{Ok}
use Rattle.count.specs.declared.Sums.{Sums}
use Rattle.count.specs.Counts.{sums}
use Rattle.record.specs.Record.{last_place}
use Rattle.fits.specs.Fitting.{refusals, fitting_of}
use Rattle.fits.proofs.Fitted as fitted
use Rattle.fits.proofs.Fitted.{Fitted, records_are}
use Rattle.avps.specs.declared.Counts.{Counts}
use Rattle.avps.specs.Fill.{Cleared}
use Rattle.avps.specs.Answers.{counts_as, answer_of, run_answer}

module _ (D : Dictionary) (limit room place : ℕ) (s : List ℕ) where
  abbrev run : Tree
  run = tree (avps D) s

  -- past the place and the limit the answer is the run's own
  pub past_limit : place + length s ≤ last_place → allowed limit ≡ true
      → answer (run_refusals D limit room place s) (run_counts D place s) ≡ run_answer D limit room place s
  unfolding run_answer
  past_limit near ok = fitted.past_limit D limit room place s near (run_counts D place s) ok

  pub count_refused : (why : Refusal) → refused why ≡ fitting_of D limit room place s → refused why ≡ run_answer D limit room place s
  unfolding fitting_of run_answer
  count_refused why e = sym (answer_alike (refusals D limit room place s) (sums run) (run_counts D place s) why (sym e))

  pub accepts : (c : Sums) → Fitted D limit room place s c → (e : ℕ) → e ≡ errors D run
      → answer_of (Ok (record { errors = e; records = c.records; tried = c.tried; length = length s })) ≡ run_answer D limit room place s
  unfolding counts_as run_counts run_answer
  accepts c f e errors_are =
      rw (errors_are, f.counted.records_is ∙ sym (records_are D place s), f.counted.tried_is)
      (sym (answers.accepts (refusals D limit room place s) (run_counts D place s) f.passes_all))

-- ---- the store afterwards

pub stores : (D : Dictionary) (place : ℕ) (s : List ℕ) (c : Counts) (e : ℕ) (before after : List ℕ)
    → Cleared D (tree (avps D) s) place e before after → after ≡ stored (answer_of (Ok c)) (run_records D place s) before
unfolding stored run_records
stores D place s c e before after f = f.store_is
