-- A run of a table, record by record: what was passed and what is left make up the run (`Walked`). A record that breaks
-- a rule stops the count there. A leaf is passed alone, and a group with the run of its members, whose parent it is.
use Prim.Native.Nat.{ℕ, ◌+◌, ◌-◌, ◌*◌, ◌/◌, ◌≤◌, ◌<◌, min}
use mathlib.Core.Path.{◌≡◌, refl, sym, ap, subst, ◌∙◌}
use mathlib.Core.Bool.{true, false, ◌&&◌, and-false}
use mathlib.Core.List.{List, ◌∷◌}
use native.Mathlib.Omega.{arith}
use lib.ListN.{length, take, drop, drop_of_length-le}
use Rattle.std.specs.Prelude.{Ok, Err}
use borrow.Author.Tests.{eq-eqb, ne_eqb}
use Rattle.record.specs.Kinds.{grouped}
use Rattle.record.specs.Record.{Record, record_size}
use Rattle.record.specs.Parents.{parent_at}
use Rattle.record.specs.Table.{entry_at, table_of}
use Rattle.rfc6733.specs.Writer.{is_group, head_of, keeps, keeps_parent, keepers, allowed_after}
use Rattle.record.proofs.Steps.{from}
use Rattle.record.proofs.Tables.{table_drop}
use Rattle.round_trip.specs.Rules.{Good}
use Rattle.round_trip.proofs.Rules.{keeps_good, after_group, after_leaf}
use Rattle.rules.specs.Checking.{own_size, own_sizes, too_many, Walked, Ended, BadAt, Checks}
use Rattle.rules.specs.declared.BadRecord.{BadRecord}
use Rattle.rules.specs.declared.Run.{Run}
use Rattle.rules.proofs.Checks.{stepped, not_stepped}
use Rattle.rules.proofs.Entries.{next_part}
use Rattle.rules.proofs.Records.{is_group_lem, no_group}

-- ---- what a record writes itself, by its kind

group_size : (r : Record) → r.kind ≡ grouped → own_size r ≡ head_of r
unfolding own_size
group_size r e = rw (is_group_lem r e) refl

leaf_size : (r : Record) → (r.kind ≡ grouped → ⊥) → own_size r ≡ r.length + r.padding
unfolding own_size
leaf_size r e = rw (no_group r e) refl

-- ---- the record at an index

pub at_index : (table : List ℕ) (k : ℕ) {r : Record} → k < length table / record_size
    → r ≡ entry_at (take (k * record_size + record_size - k * record_size) (from table k))
    → drop k (table_of table) ≡ r ∷ drop (k + 1) (table_of table)
at_index table k {r} some read =
    sym (table_drop k table (omega arith)) ∙ next_part table k some read
    ∙ ap (λ (ts : List Record). r ∷ ts) (table_drop (k + 1) table (omega arith))

-- a record is no parent of one that is not deeper; it is that of one that comes next and is one deeper
same_parent : (depth d : ℕ) (passed : List ℕ) → 1 ≤ depth → d ≤ depth → parent_at (depth ∷ passed) d ≡ parent_at passed d
same_parent depth d passed some low = rw (ne_eqb depth (d - 1) (λ z. omega arith)) refl

own_parent : (depth : ℕ) (passed : List ℕ) → 1 ≤ depth → parent_at (depth ∷ passed) (depth + 1) ≡ length passed
own_parent depth passed some =
    let below : depth + 1 - 1 ≡ depth = omega arith in
    rw (ne_eqb (depth + 1) 1 (λ z. omega arith), below, eq-eqb depth depth refl) refl

-- ---- a walk

-- where a run ended, the next record is less deep
ends : {depth : ℕ} {rs ts : List Record} {r : Record} → rs ≡ r ∷ ts → Ended depth rs → r.depth < depth
ends {depth} e h = rw e at h

none_walked : (n depth : ℕ) (earlier : List ℕ) (start : ℕ) (rs : List Record) → length earlier ≡ start
    → Walked n depth earlier start rs start 0
none_walked n depth earlier start rs e =
    record {
      passed = earlier;
      allowed = depth;
      bytes = 0;
      counted = e;
      kept_is = refl;
      bytes_are = omega arith;
      size_is = omega arith;
      level = omega arith;
      no_deeper = λ r ts is h. h;
      parents_stay = λ d h. refl;
    }

-- the next record
pub record Stands (rs : List Record) (index : ℕ) (r : Record) : Type 0 where
  pub some : index < length rs
  pub here : drop index rs ≡ r ∷ drop (index + 1) rs

-- it belongs to a run of this depth and this parent, and keeps all rules
pub record Keeps (n depth parent : ℕ) (r : Record) : Type 0 where
  pub level : r.depth ≡ depth
  pub own : keeps r.depth n r ≡ true
  pub parent_is : r.parent ≡ parent

module _ {n depth : ℕ} {earlier : List ℕ} {start : ℕ} {rs : List Record} {index size : ℕ}
    (w : Walked n depth earlier start rs index size) (r : Record) (s : Stands rs index r) where
  stops : keeps w.allowed n r && keeps_parent w.passed r ≡ false → BadAt n depth earlier start rs index
  stops e = record { kept_is = w.kept_is ∙ rw s.here (rw e (omega arith)); some = s.some }

  own_is : r.depth ≡ depth → keeps w.allowed n r ≡ keeps r.depth n r
  own_is e = sym (not_stepped w.allowed n r (omega (arith, w.level)))

  told : r.depth ≡ depth → parent_at w.passed r.depth ≡ parent_at earlier depth
  told e = rw e (w.parents_stay depth (omega arith))

  -- ---- it keeps them all

  module _ (k : Keeps n depth (parent_at earlier depth) r) where
    abbrev good : Good r.depth n r
    good = keeps_good r.depth n r k.own

    one_kept : keepers w.passed w.allowed n (drop index rs)
        ≡ 1 + keepers (r.depth ∷ w.passed) (allowed_after r) n (drop (index + 1) rs)
    one_kept =
        rw (
          s.here,
          own_is k.level ∙ k.own,
          eq-eqb r.parent (parent_at w.passed r.depth) (k.parent_is ∙ sym (told k.level)),
        )
        (omega arith)

    one_size : own_sizes (drop index rs) ≡ own_size r + own_sizes (drop (index + 1) rs)
    one_size = rw s.here refl

    stay : (d : ℕ) → d ≤ depth → parent_at (r.depth ∷ w.passed) d ≡ parent_at earlier d
    stay d h = same_parent r.depth d w.passed good.some (omega (arith, k.level)) ∙ w.parents_stay d h

    leaf_walked : (z : ℕ) → is_group r ≡ false → z ≡ min (size + own_size r) too_many
        → Walked n depth earlier start rs (index + 1) z
    leaf_walked z e is =
        record {
          passed = r.depth ∷ w.passed;
          allowed = allowed_after r;
          bytes = w.bytes + own_size r;
          counted = omega (arith, w.counted);
          kept_is = omega (arith, w.kept_is, one_kept);
          bytes_are = omega (arith, w.bytes_are, one_size);
          size_is = omega (arith, is, w.size_is);
          level = omega (arith, after_leaf r e, k.level);
          no_deeper = λ r' ts there h. omega (arith, after_leaf r e, k.level);
          parents_stay = stay;
        }

    -- a group: what is said of the run of its members is said after its own depth, and it is their parent
    module _ (e : is_group r ≡ true) where
      group_kept : keepers w.passed w.allowed n (drop index rs)
          ≡ 1 + keepers (r.depth ∷ w.passed) (depth + 1) n (drop (index + 1) rs)
      group_kept =
          let inside : allowed_after r ≡ depth + 1 = after_group r e ∙ ap (λ (d : ℕ). d + 1) k.level in
          one_kept ∙ ap (λ (d : ℕ). 1 + keepers (r.depth ∷ w.passed) d n (drop (index + 1) rs)) inside

      after_group_itself : (P : List ℕ → Type 0)
          → ((before : List ℕ) → length before ≡ index + 1 → parent_at before (depth + 1) ≡ index → P before)
          → P (r.depth ∷ w.passed)
      after_group_itself P h =
          let parent : parent_at (r.depth ∷ w.passed) (depth + 1) ≡ index =
          subst (λ (d : ℕ). parent_at (r.depth ∷ w.passed) (d + 1) ≡ length w.passed) k.level
          (own_parent r.depth w.passed good.some)
          ∙ w.counted
          in
          h (r.depth ∷ w.passed) (omega (arith, w.counted)) parent

      members_broken : (i : ℕ)
          → ((before : List ℕ) → length before ≡ index + 1 → parent_at before (depth + 1) ≡ index
          → BadAt n (depth + 1) before (index + 1) rs i)
          → BadAt n depth earlier start rs i
      members_broken i h =
          let b = after_group_itself (λ before. BadAt n (depth + 1) before (index + 1) rs i) h in
          record { kept_is = omega (arith, w.kept_is, group_kept, b.kept_is); some = b.some }

      members_walked : (i z next : ℕ)
          → ((before : List ℕ) → length before ≡ index + 1 → parent_at before (depth + 1) ≡ index
          → Walked n (depth + 1) before (index + 1) rs i z × Ended (depth + 1) (drop i rs))
          → next ≡ min (size + own_size r + z) too_many → Walked n depth earlier start rs i next
      members_walked i z next h is =
          let (v, end) =
          after_group_itself
          (λ before. Walked n (depth + 1) before (index + 1) rs i z × Ended (depth + 1) (drop i rs)) h
          in
          record {
            passed = v.passed;
            allowed = v.allowed;
            bytes = w.bytes + own_size r + v.bytes;
            counted = v.counted;
            kept_is = omega (arith, w.kept_is, group_kept, v.kept_is);
            bytes_are = omega (arith, w.bytes_are, one_size, v.bytes_are);
            size_is = omega (arith, is, w.size_is, v.size_is);
            level = omega (arith, v.level);
            no_deeper = λ r' ts there h. absurd (omega (arith, ends there end));
            parents_stay = λ d h. v.parents_stay d (omega arith) ∙ stay d h;
          }

-- ---- a loop over a run, of which no earlier depths are known but the parent that they give

pub record Passed (n start depth parent : ℕ) (rs : List Record) (index size : ℕ) : Type 0 where
  pub onward : start ≤ index
  pub few : size ≤ too_many
  pub walked : (earlier : List ℕ) → length earlier ≡ start → parent_at earlier depth ≡ parent
      → Walked n depth earlier start rs index size

pub none_passed : {n start depth parent : ℕ} {rs : List Record} → Passed n start depth parent rs start 0
none_passed =
    record { onward = omega arith; few = omega arith; walked = λ earlier e q. none_walked _ _ earlier _ _ e }

module _ {n start depth parent : ℕ} {rs : List Record} {index size : ℕ}
    (p : Passed n start depth parent rs index size) where
  -- it is over
  pub ends_last : length rs ≤ index → Checks n start depth parent rs (Ok (record { index = index; size = size }))
  unfolding Checks
  ends_last h =
      let none = drop_of_length-le rs {i = index} h in
      (p.onward, p.few, λ earlier e q. (p.walked earlier e q, rw none tt))

  module _ {r : Record} (s : Stands rs index r) where
    pub ends_before : r.depth < depth → Checks n start depth parent rs (Ok (record { index = index; size = size }))
    unfolding Checks
    ends_before less =
        let end : Ended depth (drop index rs) = rw s.here less in
        (p.onward, p.few, λ earlier e q. (p.walked earlier e q, end))

    -- the next record breaks a rule
    pub bad_depth : depth < r.depth → Checks n start depth parent rs (Err (record { 0 = index }))
    unfolding Checks
    bad_depth h earlier e q =
        let w = p.walked earlier e q in
        stops w r s (rw (stepped w.allowed n r (w.no_deeper r _ s.here h)) refl)

    pub bad_parent : r.depth ≡ depth → (r.parent ≡ parent → ⊥) → Checks n start depth parent rs (Err (record { 0 = index }))
    unfolding Checks
    bad_parent level h earlier e q =
        let w = p.walked earlier e q in
        let other = ne_eqb r.parent (parent_at w.passed r.depth) (λ z. h (z ∙ told w r s level ∙ q)) in
        stops w r s (simp (other, and-false))

    pub bad_itself : r.depth ≡ depth → keeps r.depth n r ≡ false → Checks n start depth parent rs (Err (record { 0 = index }))
    unfolding Checks
    bad_itself level own earlier e q =
        let w = p.walked earlier e q in
        stops w r s (rw (own_is w r s level ∙ own) refl)

    -- it keeps them all
    module _ (k : Keeps n depth parent r) where
      kept : (earlier : List ℕ) → parent_at earlier depth ≡ parent → Keeps n depth (parent_at earlier depth) r
      kept earlier q = rw q k

      pub leaf_passed : (r.kind ≡ grouped → ⊥) → {z : ℕ} → z ≡ min (size + r.length + r.padding) too_many
          → Passed n start depth parent rs (index + 1) z
      leaf_passed leaf is =
          record {
            onward = omega (arith, p.onward);
            few = omega (arith, is);
            walked =
                λ earlier e q.
                leaf_walked (p.walked earlier e q) r s (kept earlier q) _ (no_group r leaf)
                (omega (arith, is, leaf_size r leaf));
          }

      module _ (group : r.kind ≡ grouped) where
        pub bad_member : (bad : BadRecord) → Checks n (index + 1) (depth + 1) index rs (Err bad)
            → Checks n start depth parent rs (Err bad)
        unfolding Checks
        bad_member bad h earlier e q =
            members_broken (p.walked earlier e q) r s (kept earlier q) (is_group_lem r group) bad.0 h

        pub group_passed : (inside : Run) → Checks n (index + 1) (depth + 1) index rs (Ok inside)
            → {z : ℕ} → z ≡ min (size + head_of r + inside.size) too_many → Passed n start depth parent rs inside.index z
        unfolding Checks
        group_passed inside h is =
            record {
              onward = omega (arith, p.onward, h.0);
              few = omega (arith, is);
              walked =
                  λ earlier e q.
                  members_walked (p.walked earlier e q) r s (kept earlier q) (is_group_lem r group) _ _ _ h.2
                  (omega (arith, is, group_size r group));
            }
