-- The loop over a run: what has been written and what is left to write. Each turn puts the record of one attribute right after those
-- before it, so at the end the records of the run stand at the front of the store, and the rest is cleared.
use Prim.Native.Nat.{ℕ, ◌+◌, ◌-◌, ◌*◌, ◌≤◌}
use mathlib.Core.Path.{◌≡◌, refl, sym, ap, ◌∙◌}
use mathlib.Core.List.{List, [], ◌++◌, append_assoc, append-nil}
use native.Mathlib.Omega.{arith}
use lib.ListN.{length, take, drop, replicate, length-append}
use borrow.Rule.Slice.PartMut.{put_mid}
use Rattle.std.proofs.lemmas.List.{nil_from_length}
use Rattle.octets.specs.Octets.{over}
use Rattle.octets.specs.Run.{Tree, item, tree, items}
use Rattle.octets.proofs.Lists.{rest, over_none, over_length, over_more, lent}
use Rattle.flags.specs.Flags.{join}
use Rattle.flags.proofs.Joins.{join_assoc, zero_join, join_zero}
use Rattle.record.specs.Record.{record_size, last_place, record_bytes, laid}
use Rattle.record.proofs.Cleared.{cleared}
use Rattle.record.proofs.Layouts.{record_length}
use Rattle.rfc2865.specs.Attribute.{attributes}
use Rattle.rfc2865.specs.Records.{record_of, records, errors}
use Rattle.rfc2865.proofs.Items.{item_same, item_length}
use Rattle.radius_attributes.specs.Fill.{Own, Put, Room, Cleared}
use Rattle.radius_attributes.proofs.Fronts.{Turn}

-- ---- the records so far

-- Of the run t at a place, n records with the flags e are written over the store `before`, which has become `now`. The run r is
-- left, which starts at the place q.
pub record Filling (t r : Tree) (place q n e : ℕ) (before now : List ℕ) : Type 0 where
  pub written : List ℕ
  pub written_length : length written ≡ n * record_size
  pub records_are : laid (records place (items t)) ≡ written ++ laid (records q (items r))
  pub store_is : now ≡ over written before
  pub length_kept : length now ≡ length before
  pub count_is : length (items t) ≡ n + length (items r)
  pub errors_are : errors (items t) ≡ join e (errors (items r))

pub nothing_filled : {t : Tree} {place : ℕ} {store : List ℕ} → Filling t t place place 0 0 store store
nothing_filled {t} {store = store} =
    record {
      written = [];
      written_length = refl;
      records_are = refl;
      store_is = sym (over_none store);
      length_kept = refl;
      count_is = omega arith;
      errors_are = sym (zero_join (errors (items t)));
    }

-- at the end all is written, and what is left of the store was lent and came back as zeros
pub all_filled : {t r : Tree} {place q n m e : ℕ} {before now back : List ℕ} → Filling t r place q n e before now
    → Room t place m (length before) → length (items t) ≡ n
    → back ≡ replicate (length (take (length now - n * record_size) (drop (n * record_size) now))) 0
    → Cleared t place e before (put_mid (n * record_size) (length now - n * record_size) now back)
all_filled {t} {r} {place} {q} {n} {e = e} {before} {now} {back} f room end zeros =
    let none : items r ≡ [] = nil_from_length (items r) (omega (arith, f.count_is)) in
    let new = laid (records place (items t)) in
    let is : new ≡ f.written = f.records_are ∙ rw none (append-nil f.written) in
    let size : n * record_size ≡ length new = sym (ap length is ∙ f.written_length) in
    let fits : length new ≤ length before = omega (arith, size, room.records_fit) in
    record {
      errors_are = sym (f.errors_are ∙ rw none (join_zero e));
      store_is =
          cleared new before now back (n * record_size) size fits (f.store_is ∙ ap (λ (w : List ℕ). over w before) (sym is)) zeros;
    }

-- ---- one attribute more, the first of those that are left

module _ {s : List ℕ} {n : ℕ} (t : Turn s n) where
  own_is : take n s ≡ item attributes s
  unfolding item
  own_is = ap (λ (k : ℕ). take k s) t.length_is

  pub own_length : length (take n s) ≡ n
  own_length = rw own_is (item_length s t.whole ∙ sym t.length_is)

  pub own_bytes : {place : ℕ} → place + length s ≤ last_place → Own place (take n s)
  own_bytes near =
      record {
        least = omega (arith, own_length, t.some);
        length_is = rw own_is ((item_same s t.whole).length_is ∙ sym (item_length s t.whole));
        places_fit = omega (arith, own_length, t.fits);
      }

module _ {t : Tree} {place q n e : ℕ} {before now s : List ℕ} (f : Filling t (tree attributes s) place q n e before now)
    (fits : (n + 1) * record_size ≤ length now) {k : ℕ} (turn : Turn s k) where
  -- its record is written there, and it came back
  pub one_filled : {w : ℕ} {back : List ℕ} → Put (take k s) q w (take (length now - n * record_size) (drop (n * record_size) now)) back
      → Filling t (tree attributes (drop k s)) place (q + k) (n + 1) (join e w) before
      (put_mid (n * record_size) (length now - n * record_size) now back)
  one_filled {w} {back} one =
      let size = n * record_size in
      let new = record_bytes (record_of q (take k s)) in
      let new_length : length (f.written ++ new) ≡ (n + 1) * record_size =
      simp length-append (omega (arith, record_length (record_of q (take k s)), f.written_length))
      in
      let store : take size now ++ back ≡ over (f.written ++ new) before =
      rw (one.store_is, rest now size (omega arith), f.store_is) (over_more f.written new before size f.written_length)
      in
      let more = rw (turn.goes_on) at f in
      let records_are = f.records_are ∙ ap (λ (r : Tree). f.written ++ laid (records q (items r))) turn.goes_on in
      rw (lent size now back)
      record {
        written = f.written ++ new;
        written_length = new_length;
        records_are = rw append_assoc (rw (own_length turn) at records_are);
        store_is = store;
        length_kept = rw store (over_length (f.written ++ new) before (omega (arith, new_length, f.length_kept)));
        count_is = omega (arith, more.count_is);
        errors_are = rw (one.errors_are, join_assoc) more.errors_are;
      }
