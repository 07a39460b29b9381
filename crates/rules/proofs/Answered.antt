-- Laws of `checked_of`: the answer from where the run of a table's top level ended, and the facts from an answer.
use Prim.Native.Nat.{ℕ, ◌≤◌, ◌<◌, min}
use mathlib.Core.Path.{◌≡◌, refl, ap}
use mathlib.Core.Bool.{Bool, true, false, cond}
use mathlib.Core.List.{List, [], ◌∷◌}
use native.Mathlib.Omega.{arith}
use lib.Dec.{ltb}
use lib.ListN.{length, drop, length-drop, drop_of_length-le}
use borrow.Author.Tests.{ltb-true, ltb-false, lt-ltb, le-ltb}
use Rattle.record.specs.Record.{Record}
use Rattle.record.proofs.Tables.{table_length}
use Rattle.rfc6733.specs.Writer.{keepers}
use Rattle.round_trip.proofs.Rules.{keepers_most}
use Rattle.std.specs.Prelude.{Result, Ok, Err}
use Rattle.rules.specs.declared.BadRecord.{BadRecord}
use Rattle.rules.specs.declared.Run.{Run}
use Rattle.record.specs.Parents.{top_level}
use Rattle.rules.specs.Checking.{own_sizes, too_many, checked_of, Walked, Ended, BadAt, Checks}
use Rattle.rules.proofs.Checks.{no_depth}

module _ (n : ℕ) (rs : List Record) where
  first_bad : (i : ℕ) → keepers [] 1 n rs ≡ i → i < length rs → Err (record { 0 = i }) ≡ checked_of n rs
  unfolding checked_of
  first_bad i e h = rw (e, lt-ltb i (length rs) h) refl

  is_bad : (i : ℕ) → BadAt n 1 [] 0 rs i → Err (record { 0 = i }) ≡ checked_of n rs
  is_bad i b = first_bad i (omega (arith, b.kept_is)) b.some

  -- ---- the run of the top level came to an index

  module _ (i size : ℕ) (w : Walked n 1 [] 0 rs i size) where
    -- before a record of depth 0, which no run has
    above : i < length rs → Ended 1 (drop i rs) → Err (record { 0 = i }) ≡ checked_of n rs
    above h end =
        let none = none_kept (drop i rs) refl (omega (arith, length-drop i rs)) in
        first_bad i (omega (arith, w.kept_is, none)) h
      where
        none_kept : (ts : List Record) → drop i rs ≡ ts → 0 < length ts
            → keepers w.passed w.allowed n (drop i rs) ≡ 0
        none_kept [] e some = absurd (omega arith)
        none_kept (r ∷ ts) e some = rw (e, no_depth w.allowed n r (rw e at end)) refl

    all : length rs ≤ i → Ok size ≡ checked_of n rs
    unfolding checked_of
    all h =
        let none = drop_of_length-le rs {i = i} h in
        let kept : keepers [] 1 n rs ≡ i = omega (arith, w.kept_is, ap (keepers w.passed w.allowed n) none) in
        let bytes : own_sizes rs ≡ w.bytes = omega (arith, w.bytes_are, ap own_sizes none) in
        rw (kept, le-ltb i (length rs) h, bytes, w.size_is) refl

  -- ---- what is said of the run of the top level, as an answer

  pub answers_bad : (bad : BadRecord) → Checks n 0 1 top_level rs (Err bad) → Err bad ≡ checked_of n rs
  unfolding Checks
  answers_bad bad h = is_bad bad.0 (h [] refl refl)

  pub answers_above : (run : Run) → Checks n 0 1 top_level rs (Ok run) → run.index < length rs
      → Err (record { 0 = run.index }) ≡ checked_of n rs
  unfolding Checks
  answers_above run h less = let e = h.2 [] refl refl in above run.index run.size e.0 less e.1

  pub answers_size : (run : Run) → Checks n 0 1 top_level rs (Ok run) → length rs ≤ run.index
      → Ok run.size ≡ checked_of n rs
  unfolding Checks
  answers_size run h more = all run.index run.size (h.2 [] refl refl).0 more

-- those three, and how long a table's list is
pub ruleset answers = (answers_bad, answers_above, answers_size, table_length)

-- ---- what an answer says

pub record Refuses (n : ℕ) (rs : List Record) (i : ℕ) : Type 0 where
  pub kept_is : i ≡ keepers [] 1 n rs
  pub some : i < length rs

pub record Takes (n : ℕ) (rs : List Record) (size : ℕ) : Type 0 where
  pub kept_is : keepers [] 1 n rs ≡ length rs
  pub size_is : size ≡ min (own_sizes rs) too_many

module _ (n : ℕ) (rs : List Record) where
  abbrev answer : Bool → Result ℕ BadRecord
  answer b = cond b (Err (record { 0 = keepers [] 1 n rs })) (Ok (min (own_sizes rs) too_many))

  pub was_bad : (i : ℕ) → Err (record { 0 = i }) ≡ checked_of n rs → Refuses n rs i
  unfolding checked_of
  was_bad i e = by (ltb (keepers [] 1 n rs) (length rs)) refl e
    where
      by : (b : Bool) → ltb (keepers [] 1 n rs) (length rs) ≡ b → Err (record { 0 = i }) ≡ answer b → Refuses n rs i
      by true x e =
          let same : ◌≡◌ {A = BadRecord} (record { 0 = i }) (record { 0 = keepers [] 1 n rs }) = cc in
          let k : i ≡ keepers [] 1 n rs = ap (λ (bad : BadRecord). bad.0) same in
          record { kept_is = k; some = omega (arith, ltb-true (keepers [] 1 n rs) (length rs) x) }
      by false x e = let z : ◌≡◌ {A = ℕ} 0 1 = cc in absurd (omega arith)

  pub was_good : (size : ℕ) → Ok size ≡ checked_of n rs → Takes n rs size
  unfolding checked_of
  was_good size e = by (ltb (keepers [] 1 n rs) (length rs)) refl e
    where
      by : (b : Bool) → ltb (keepers [] 1 n rs) (length rs) ≡ b → Ok size ≡ answer b → Takes n rs size
      by true x e = let z : ◌≡◌ {A = ℕ} 0 1 = cc in absurd (omega arith)
      by false x e =
          record {
            kept_is = omega (arith, ltb-false (keepers [] 1 n rs) (length rs) x, keepers_most [] 1 n rs);
            size_is = cc;
          }
