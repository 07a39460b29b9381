-- What was counted of a run leads to the answer, in the order of the refusals; and an acceptance says that none of them is given.
use Prim.Native.Nat.{ℕ, ◌+◌, ◌≤◌, ◌<◌}
use mathlib.Core.Path.{◌≡◌, sym, ◌∙◌}
use mathlib.Core.Bool.{true, not}
use mathlib.Core.List.{List, ◌++◌}
use native.Mathlib.Omega.{arith}
use lib.ListN.{length}
use lib.Dec.{ltb}
use borrow.Author.Tests.{lt-ltb, le-ltb}
use Rattle.octets.specs.Run.{Tree, tree}
use Rattle.refusal.specs.Answer.{answer, passes, answer_of}
use Rattle.refusal.specs.declared.Refusal.{Refusal}
use Rattle.refusal.specs.declared.Refusal.TheVariants.{NoRecords, TooLong}
use Rattle.refusal.proofs.Answers.{and-true, kept_lt, passed, answer_first}
use Rattle.record.specs.Refusals.{tile_refusals, room_refusals}
use Rattle.record.proofs.Parents.{parented_count}
use Rattle.rfc6733.specs.Dictionary.{Dictionary}
use Rattle.rfc6733.specs.Records as rfc
use Rattle.rfc6733.specs.Records.{avps, record_count}
use Rattle.rfc6733.specs.Decoder.{allowed, limit_refusals, depth_refusals, fit_refusals, run_records, run_refusals}
use Rattle.rfc6733.proofs.Decoded.{limit_good, more_records, fits}
use Rattle.rfc6733.proofs.RunRecords.{records_count}
use Rattle.std.specs.Prelude.{Ok, Err}
use Rattle.count.specs.declared.Sums.{Sums}
use Rattle.count.specs.Counts.{sums, count_of}
use Rattle.count.proofs.Counts.{Fitting, fitting, was_passing}
use Rattle.record.specs.Record.{last_place}
use Rattle.fits.specs.Fitting.{refusals, fitting_of}

pub records_are : (D : Dictionary) (place : ℕ) (s : List ℕ) → length (run_records D place s) ≡ record_count (tree (avps D) s)
unfolding run_records
records_are D place s = let t = tree (avps D) s in parented_count (rfc.records D place 1 t) ∙ records_count D place 1 t

module _ (D : Dictionary) (limit room place : ℕ) (s : List ℕ) where
  abbrev run : Tree
  run = tree (avps D) s

  -- ---- the answer from the facts

  pub too_long : last_place < place + length s → answer_of (Err TooLong) ≡ fitting_of D limit room place s
  unfolding fitting_of
  too_long h = rw (lt-ltb last_place (place + length s) h)

  module _ (near : place + length s ≤ last_place) where
    past_places : {A : Type 0} (x : A)
        → answer (limit_refusals limit ++ run_refusals D limit room place s) x ≡ answer (refusals D limit room place s) x
    past_places x = rw (le-ltb last_place (place + length s) near)

    -- past the place and the limit the answer is the run's own, whatever an acceptance returns
    pub past_limit : {A : Type 0} (x : A) → allowed limit ≡ true
        → answer (run_refusals D limit room place s) x ≡ answer (refusals D limit room place s) x
    past_limit x ok = limit_good limit (run_refusals D limit room place s) x ok ∙ past_places x

    -- a run is refused as it was when it was counted
    pub count_refused : (why : Refusal) → answer_of (Err why) ≡ count_of limit run → answer_of (Err why) ≡ fitting_of D limit room place s
    unfolding count_of fitting_of
    count_refused why e =
        let first = limit_refusals limit ++ (tile_refusals run ++ depth_refusals limit run) in
        sym (answer_first first (room_refusals room (run_records D place s)) _ (sums run) _ (sym e)) ∙ past_places (sums run)

    module _ (c : Sums) (k : Fitting limit run c.records c.tried) where
      own : answer (run_refusals D limit room place s) (sums run) ≡ fitting_of D limit room place s
      unfolding fitting_of
      own = past_limit (sums run) k.limit_is

      past_tiles : answer (fit_refusals limit room run (run_records D place s)) (sums run) ≡ fitting_of D limit room place s
      past_tiles = rw k.tiled at own

      pub no_records : room < c.records → answer_of (Err (NoRecords c.records)) ≡ fitting_of D limit room place s
      no_records less =
          rw k.records_is (more_records limit room run (run_records D place s) (sums run) k.shallow (records_are D place s) (omega (arith, k.records_is)))
          ∙ past_tiles

      pub has_room : c.records ≤ room → answer_of (Ok c) ≡ fitting_of D limit room place s
      has_room room_left =
          rw (k.records_is, k.tried_is)
          (fits limit room run (run_records D place s) (sums run) k.shallow (records_are D place s) (omega (arith, k.records_is)))
          ∙ past_tiles

-- ---- the facts from an acceptance

pub record Fitted (D : Dictionary) (limit room place : ℕ) (s : List ℕ) (c : Sums) : Type 0 where
  pub passes_all : passes (refusals D limit room place s) ≡ true
  pub near : place + length s ≤ last_place
  pub counted : Fitting limit (tree (avps D) s) c.records c.tried
  pub room_left : c.records ≤ room

pub was_fitted : (D : Dictionary) (limit room place : ℕ) (s : List ℕ) (c : Sums)
    → answer_of (Ok c) ≡ fitting_of D limit room place s → Fitted D limit room place s c
unfolding fitting_of
was_fitted D limit room place s c e =
    let t = tree (avps D) s in
    let p = passed (refusals D limit room place s) (sums t) _ (sym e) in
    let places = and-true (not (ltb last_place (place + length s))) _ p.0 in
    let w = was_passing limit t (room_refusals room (run_records D place s)) places.1 in
    let roomy = and-true (not (ltb room (length (run_records D place s)))) _ w.others_pass in
    let few = kept_lt room (length (run_records D place s)) roomy.0 in
    let k = fitting c.records c.tried w p.1 in
    record {
      passes_all = p.0;
      near = kept_lt last_place (place + length s) places.0;
      counted = k;
      room_left = omega (arith, few, k.records_is, records_are D place s);
    }
