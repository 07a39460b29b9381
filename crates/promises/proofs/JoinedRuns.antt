-- Joining two runs, of `avps::parse_avps` itself, which decodes a run by any dictionary. Two runs that it accepts are
-- accepted joined, and the answer and the records are the two's, merged. Between the contracts stands the law of the
-- definition (rfc6733/proofs/Joining).
use Prim.Native.Nat.{ℕ, ◌+◌, ◌-◌, ◌≤◌}
use mathlib.Core.Path.{◌≡◌, refl, sym, ap, ap₂, ◌∙◌}
use mathlib.Core.Bool.{true}
use mathlib.Core.List.{List, ◌++◌, map}
use native.Mathlib.Omega.{arith}
use lib.ListN.{length, replicate}
use contract.Lifetimes.{Lfts}
use Rattle.std.specs.Prelude.{Ok}
use Rattle.promises.proofs.Outcomes.{Filled}
use Rattle.octets.specs.Run.{tree, deepest}
use Rattle.refusal.specs.Answer.{accepted}
use Rattle.refusal.proofs.Answers.{passed, accepts, passes_append}
use Rattle.refusal.proofs.Tests.{tests}
use Rattle.flags.specs.Flags.{join}
use Rattle.record.specs.Record.{Record, laid, last_place}
use Rattle.record.specs.Store.{room, stored}
use Rattle.record.specs.Counts as of_records
use Rattle.rfc6733.specs.Joining.{Fragment, shifted, merged_counts}
use Rattle.rfc6733.specs.Decoder.{allowed, run_records, run_counts}
use Rattle.rfc6733.specs.Dictionary.{Dictionary}
use Rattle.rfc6733.specs.Records.{avps, tiling}
use Rattle.rfc6733.proofs.Tiling.{tiles_any}
use Rattle.rfc6733.proofs.Joining.{Joins, joining}
use Rattle.attribute.specs.declared.Dictionary as attribute
use Rattle.attribute.specs.ByTable.{dictionary_of}
use Rattle.fits.specs.Fitting.{refusals}
use Rattle.avps.specs.declared.Counts.{Counts}
use Rattle.avps.specs.Answers.{run_answer, answer_of, counts_as}
use Rattle.avps.proofs.AnswerOf.{answer_of_injective}
use Rattle.promises.proofs.OneOutcome.Calls.{Slice, MutSlice, ParseAvps}

-- a call that answered r, of a run that stands at a place
pub record RunCall (d : attribute.Dictionary) (limit place : ℕ) (r : Filled) : Type 0 where
  pub lifetimes : Lfts 3
  pub input : Slice
  pub store : MutSlice
  pub store' : MutSlice
  pub answered : ParseAvps lifetimes d limit input place store r store'

-- both are accepted as one run; the first's records and then the second's, shifted, are in the store, before zeros
pub record RunsJoined {d : attribute.Dictionary} {limit place : ℕ} {b c : Counts} {r : Filled}
    (first : RunCall d limit place (Ok b)) (second : RunCall d limit place (Ok c))
    (both : RunCall d limit place r) : Type 0 where
  pub counts : Counts
  pub is_accepted : r ≡ Ok counts
  pub counts_are : counts_as counts ≡ merged_counts (counts_as b) (counts_as c)
  pub store_is : let D = dictionary_of d in
      let further = map (shifted b.length b.records) (run_records D place second.input.now) in
      let rs = run_records D place first.input.now ++ further in
      both.store'.now ≡ laid rs ++ replicate (length both.store.now - length (laid rs)) 0

-- ---- the proofs

-- what is known of a run that is accepted
record Taken (D : Dictionary) (limit place : ℕ) (s : List ℕ) (c : of_records.Counts) : Type 0 where
  allows : allowed limit ≡ true
  tiled : tiling s ≡ true
  shallow : deepest (tree (avps D) s) ≤ limit
  counts_are : run_counts D place s ≡ c

taken : (D : Dictionary) (limit n place : ℕ) (s : List ℕ) (c : of_records.Counts)
    → run_answer D limit n place s ≡ accepted c
    → Taken D limit place s c
unfolding run_answer
taken D limit n place s c e =
    let p = passed (refusals D limit n place s) (run_counts D place s) c e in
    let h = simp (passes_append, tests) at p.0 in
    record {
      allows = h.1.0;
      tiled = sym (tiles_any D s) ∙ h.1.1.0;
      shallow = h.1.1.1.0.0;
      counts_are = p.1;
    }

-- a run is accepted where all of it holds
is_taken : (D : Dictionary) (limit n place : ℕ) (s : List ℕ) → place + length s ≤ last_place → allowed limit ≡ true
    → tiling s ≡ true → deepest (tree (avps D) s) ≤ limit → (run_counts D place s).records ≤ n
    → run_answer D limit n place s ≡ accepted (run_counts D place s)
unfolding run_answer run_counts
is_taken D limit n place s there allows tiled shallow fits =
    let t = tiles_any D s ∙ tiled in
    accepts (refusals D limit n place s) (run_counts D place s) (simp (passes_append, tests) (search))

module _ (D : Dictionary) (limit place : ℕ) (s x : List ℕ) (b c : of_records.Counts)
    (first : Taken D limit place s b) (second : Taken D limit place x c) where
  joins : Joins D place s x
  joins = joining D place s x first.tiled second.tiled

  counts_merged : run_counts D place (s ++ x) ≡ merged_counts b c
  counts_merged =
      ap (λ (f : Fragment). f.counts) joins.fragment_is
      ∙ ap₂ merged_counts first.counts_are second.counts_are

  records_merged : run_records D place (s ++ x)
      ≡ run_records D place s ++ map (shifted b.length b.records) (run_records D place x)
  records_merged =
      ap (λ (f : Fragment). f.records) joins.fragment_is
      ∙ ap
      (λ (k : of_records.Counts). run_records D place s ++ map (shifted k.length k.records) (run_records D place x))
      first.counts_are

  both_taken : (n : ℕ) → place + length (s ++ x) ≤ last_place → b.records + c.records ≤ n
      → run_answer D limit n place (s ++ x) ≡ accepted (merged_counts b c)
  both_taken n there fits =
      is_taken D limit n place (s ++ x) there first.allows joins.tiles_is
      (omega (arith, joins.deepest_is, first.shallow, second.shallow))
      (omega (arith, ap (λ (k : of_records.Counts). k.records) counts_merged))
      ∙ ap accepted counts_merged

-- ---- what is promised

pub joined_runs : (d : attribute.Dictionary) (limit place : ℕ) (b c : Counts) (r : Filled)
    (first : RunCall d limit place (Ok b)) (second : RunCall d limit place (Ok c))
    (both : RunCall d limit place r)
    → both.input.now ≡ first.input.now ++ second.input.now
    → place + length both.input.now ≤ last_place → b.records + c.records ≤ room both.store.now
    → RunsJoined first second both
unfolding counts_as stored
joined_runs d limit place b c r first second both is there fits =
    let D = dictionary_of d in
    let x = taken D limit _ place first.input.now (counts_as b) (sym first.answered.0) in
    let y = taken D limit _ place second.input.now (counts_as c) (sym second.answered.0) in
    let total : Counts =
    record {
      errors = join b.errors c.errors;
      records = b.records + c.records;
      tried = b.tried + c.tried;
      length = b.length + c.length;
    } in
    let answered = both_taken D limit place _ _ _ _ x y (room both.store.now) (rw is at there) fits in
    let is_total : r ≡ Ok total =
    answer_of_injective r (Ok total) (both.answered.0 ∙ rw is answered) in
    let records_are = ap (run_records D place) is ∙ records_merged D limit place _ _ _ _ x y in
    record {
      counts = total;
      is_accepted = is_total;
      counts_are = refl;
      store_is =
          both.answered.1
          ∙ ap₂ (λ (a : Filled) (rs : List Record). stored (answer_of a) rs both.store.now) is_total records_are;
    }
