-- A run of records, one turn at a time, as a loop over a table goes: the record at the front with its members, and then the run of
-- the table after them.
use Prim.Native.Nat.{ℕ, suc, ◌+◌, ◌*◌, ◌≤◌, ◌<◌}
use mathlib.Core.Path.{◌≡◌, refl, ap}
use mathlib.Core.Bool.{true, false}
use mathlib.Core.List.{List, [], ◌∷◌}
use native.Mathlib.Omega.{arith}
use lib.ListN.{length, drop, length-drop}
use borrow.Author.Tests.{le-leb, lt-leb}
use Rattle.record.specs.Record.{Record, record_size}
use Rattle.record.specs.Forest.{none, node, leading, forest}
use Rattle.record.specs.Table.{entry_at, table_of}
use Rattle.rfc6733.specs.Writer.{is_group, allowed_after}
use Rattle.round_trip.specs.Forests.{count}
use Rattle.round_trip.specs.Rules.{Good, Valid}
use Rattle.round_trip.specs.Tables.{run, one}
use Rattle.round_trip.proofs.Rules.{keeps_good, after_group, after_leaf}
use Rattle.round_trip.proofs.Shape.{flat_forest, count_flat, leading_fewer}
use Rattle.round_trip.proofs.Kept.{forest_tail, valid_tail}
use Rattle.record.proofs.Tables.{table_none, table_some, table_drop, table_length}

-- ---- where a run ends: the table ends, or goes on above it

pub run_end : (d : ℕ) (s : List ℕ) → length s < record_size → run d s ≡ none
unfolding run
run_end d s h = rw (table_none s h)

pub run_above : (d : ℕ) (s : List ℕ) → record_size ≤ length s → (entry_at s).depth < d → run d s ≡ none
unfolding run
run_above d s h e = rw (table_some s h, lt-leb d (entry_at s).depth e)

-- nothing is deeper than what is allowed
pub none_deeper : (d n : ℕ) (rs : List Record) → Valid d n rs → leading (d + 1) (forest rs) ≡ none
none_deeper d n [] v = refl
none_deeper d n (r ∷ rs) v = rw (lt-leb (d + 1) r.depth (omega (arith, keeps_good d n r v.0)))

-- ---- a turn

-- the record at the front of s stands at the run's own depth d, and z is the table after it and its members
pub record Turn (d n : ℕ) (s z : List ℕ) : Type 0 where
  pub depth_is : (entry_at s).depth ≡ d
  pub good_here : Good d n (entry_at s)
  pub one_is : one s ≡ node (entry_at s) (run (d + 1) (drop record_size s)) none
  pub run_is : run d s ≡ node (entry_at s) (run (d + 1) (drop record_size s)) (run d z)
  pub fits : count (one s) * record_size ≤ length s
  pub valid_inside : is_group (entry_at s) ≡ true → Valid (d + 1) n (table_of (drop record_size s))
  pub none_inside : is_group (entry_at s) ≡ false → run (d + 1) (drop record_size s) ≡ none
  pub valid_after : Valid d n (table_of z)

module _ (d : ℕ) (s : List ℕ) (some : record_size ≤ length s) (level : (entry_at s).depth ≡ d) where
  abbrev others : List Record
  others = table_of (drop record_size s)

  one_at : one s ≡ node (entry_at s) (run (d + 1) (drop record_size s)) none
  unfolding one run
  one_at = rw (table_some s some, level)

  count_one : count (one s) ≡ suc (count (leading (d + 1) (forest others)))
  unfolding run
  count_one = rw one_at (omega arith)

  one_fits : count (one s) * record_size ≤ length s
  one_fits =
      omega (
        arith,
        count_one,
        leading_fewer (d + 1) (forest others),
        count_flat (forest others),
        ap length (flat_forest others),
        table_length (drop record_size s),
        length-drop record_size s,
      )

  -- the table after the first record and its members
  rest_is : table_of (drop (count (one s) * record_size) s) ≡ drop (count (leading (d + 1) (forest others))) others
  rest_is = rw (table_drop (count (one s)) s one_fits, count_one, table_some s some)

  run_at : run d s ≡ node (entry_at s) (run (d + 1) (drop record_size s)) (run d (drop (count (one s) * record_size) s))
  unfolding run
  run_at = rw (table_some s some, level, le-leb d d (omega arith), rest_is, forest_tail (d + 1) others) (cc)

pub turn : (d n : ℕ) (s : List ℕ) → record_size ≤ length s → Valid d n (table_of s) → d ≤ (entry_at s).depth
    → Turn d n s (drop (count (one s) * record_size) s)
unfolding run
turn d n s some v low =
    let w : Valid d n (entry_at s ∷ table_of (drop record_size s)) = rw (table_some s some) at v in
    let g = keeps_good d n (entry_at s) w.0 in
    let level : (entry_at s).depth ≡ d = omega arith in
    record {
      depth_is = level;
      good_here = g;
      one_is = one_at d s some level;
      run_is = run_at d s some level;
      fits = one_fits d s some level;
      valid_inside = λ e. rw (after_group (entry_at s) e, level) at w.1;
      none_inside = λ e. none_deeper d n (table_of (drop record_size s)) (rw (after_leaf (entry_at s) e, level) at w.1);
      valid_after = rw (rest_is d s some level) (valid_tail (allowed_after (entry_at s)) d n (table_of (drop record_size s)) w.1);
    }
