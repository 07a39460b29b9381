-- The front of a table, as the cycle that writes meets it: the record there with its members, and a loop over a run of
-- the table, which passes a record with its members in each turn.
use Prim.Native.Nat.{ℕ, ◌+◌, ◌-◌, ◌*◌, ◌/◌, ◌≤◌, ◌<◌}
use mathlib.Core.Path.{◌≡◌, ap, ◌∙◌}
use mathlib.Core.List.{List, append-nil}
use native.Mathlib.Omega.{arith}
use lib.ListN.{length, take, drop, length-append, length-drop}
use lib.Seq.{drop-drop}
use Rattle.record.specs.Record.{Record, record_size}
use Rattle.record.specs.Kinds.{grouped}
use Rattle.record.specs.Forest.{Forest, none, node}
use Rattle.record.specs.Table.{entry_at, table_of}
use Rattle.rfc6733.specs.Writer.{forest_bytes}
use Rattle.round_trip.specs.Forests.{count}
use Rattle.round_trip.specs.Rules.{Good, Valid}
use Rattle.round_trip.specs.Tables.{run, one}
use Rattle.round_trip.proofs.Turns.{turn, run_end, run_above}
use Rattle.rules.proofs.Records.{is_group_lem, no_group}
use Rattle.rules.proofs.Entries.{entry_part}

-- ---- the record at the front, with its members

-- the run of the members of the record at the front, at a depth
abbrev pub members : ℕ → List ℕ → Forest
members depth s = run (depth + 1) (drop record_size s)

pub record AtFront (available : ℕ) (s : List ℕ) (r : Record) : Type 0 where
  pub good : Good r.depth available r
  pub most : r.depth ≤ 64
  pub one_is : one s ≡ node r (members r.depth s) none
  pub count_is : count (one s) ≡ 1 + count (members r.depth s)
  pub fits : count (one s) * record_size ≤ length s
  pub valid_inside : r.kind ≡ grouped → Valid (r.depth + 1) available (table_of (drop record_size s))
  pub alone : (r.kind ≡ grouped → ⊥) → count (one s) ≡ 1

pub at_front : (available : ℕ) (s : List ℕ) (r : Record) → r ≡ entry_at s → record_size ≤ length s
    → Valid r.depth available (table_of s) → AtFront available s r
at_front available s r is some v =
    let t = turn r.depth available s some v (rw (← is) (omega arith)) in
    let g : Good r.depth available r = rw (← is) at t.good_here in
    record {
      good = g;
      most = g.most;
      one_is = rw (← is) at t.one_is;
      count_is = ap count t.one_is ∙ omega arith;
      fits = t.fits;
      valid_inside = λ e. t.valid_inside (rw (← is) (is_group_lem r e));
      alone = λ e. ap count t.one_is ∙ rw (t.none_inside (rw (← is) (no_group r e)));
    }

-- ---- a loop over a run

-- the table from record n on
abbrev pub from : List ℕ → ℕ → List ℕ
from table n = drop (n * record_size) table

abbrev pub bytes_size : List ℕ → Forest → ℕ
bytes_size pool f = length (forest_bytes pool f)

-- of the run f, n records are passed, whose AVPs are b bytes, and the table from there on is s
pub record Passed (pool : List ℕ) (depth : ℕ) (f : Forest) (s : List ℕ) (n b : ℕ) : Type 0 where
  pub size_is : bytes_size pool f ≡ b + bytes_size pool (run depth s)
  pub count_is : count f ≡ n + count (run depth s)
  pub valid : Valid depth (length pool) (table_of s)

pub none_passed : {pool : List ℕ} {depth : ℕ} {s : List ℕ} → Valid depth (length pool) (table_of s)
    → Passed pool depth (run depth s) s 0 0
none_passed v = record { size_is = omega arith; count_is = omega arith; valid = v }

-- where it ends: the table ends, or goes on above the run
pub ends : (depth : ℕ) (table : List ℕ) (n : ℕ) → length table / record_size ≤ n → run depth (from table n) ≡ none
ends depth table n h = run_end depth (from table n) (omega (arith, length-drop (n * record_size) table))

-- what the next record is, and what is passed with it
pub record Step (pool : List ℕ) (depth : ℕ) (f : Forest) (table : List ℕ) (n b : ℕ) (r : Record) : Type 0 where
  pub here_is : r ≡ entry_at (from table n)
  pub long : record_size ≤ length (from table n)
  pub valid : Valid r.depth (length pool) (table_of (from table n))
  pub one_is : one (from table n) ≡ node r (members depth (from table n)) none
  pub run_is :
      run depth (from table n)
      ≡ node r (members depth (from table n)) (run depth (from table (n + count (one (from table n)))))
  pub within : b + bytes_size pool (one (from table n)) ≤ bytes_size pool f
  pub some : 1 ≤ count (one (from table n))
  pub fits : (n + count (one (from table n))) * record_size ≤ length table
  pub passed :
      let next = n + count (one (from table n)) in
      Passed pool depth f (from table next) next (b + bytes_size pool (one (from table n)))

-- the next record is there, read from its own part of the table
module _ (table : List ℕ) (n : ℕ) (r : Record) (more : n < length table / record_size)
    (read : r ≡ entry_at (take (n * record_size + record_size - n * record_size) (from table n))) where
  here_is : r ≡ entry_at (from table n)
  here_is = read ∙ entry_part (from table n) (n * record_size)

  depth_is : (entry_at (from table n)).depth ≡ r.depth
  depth_is = rw (← here_is)

  here_long : record_size ≤ length (from table n)
  here_long = omega (arith, length-drop (n * record_size) table)

  pub ends_above : (depth : ℕ) → r.depth < depth → run depth (from table n) ≡ none
  ends_above depth h = run_above depth (from table n) here_long (omega (arith, depth_is))

  pub step : {pool : List ℕ} {depth : ℕ} {f : Forest} {b : ℕ} → depth ≤ r.depth → Passed pool depth f (from table n) n b
      → Step pool depth f table n b r
  step {pool} {depth} low p =
      let s = from table n in
      let next = n + count (one s) in
      let level = depth_is in
      let left = length-drop (n * record_size) table in
      let t = turn depth (length pool) s here_long p.valid (omega arith) in
      let same : r.depth ≡ depth = omega (arith, t.depth_is) in
      let e : next * record_size ≡ n * record_size + count (one s) * record_size = omega arith in
      let after : drop (count (one s) * record_size) s ≡ from table next =
      rw (e, drop-drop (count (one s) * record_size) (n * record_size) table)
      in
      let all : run depth s ≡ node r (members depth s) (run depth (from table next)) = rw (here_is, ← after) t.run_is in
      let first : one s ≡ node r (members depth s) none = rw here_is t.one_is in
      let sum : bytes_size pool (run depth s) ≡ bytes_size pool (one s) + bytes_size pool (run depth (from table next)) =
      rw (all, first) (simp (append-nil, length-append))
      in
      let counts : count (run depth s) ≡ count (one s) + count (run depth (from table next)) = rw (all, first) (omega arith) in
      record {
        here_is = here_is;
        long = here_long;
        valid = rw same p.valid;
        one_is = first;
        run_is = all;
        within = omega arith;
        some = omega (arith, ap count first);
        fits = omega (arith, t.fits);
        passed = record { size_is = omega arith; count_is = omega arith; valid = rw after at t.valid_after };
      }
