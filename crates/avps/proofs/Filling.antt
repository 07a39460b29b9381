-- The loop over a run: what has been written and what is left to write. Each turn puts the records of one AVP right after those
-- before it, so at the end the records of the run stand at the front of the store. An AVP has no more records than bytes, so the
-- index of the next record is never past its place.
use Prim.Native.Nat.{ℕ, ◌+◌, ◌-◌, ◌*◌, ◌≤◌, ◌<◌}
use mathlib.Core.Path.{◌≡◌, refl, sym, ap, ◌∙◌}
use mathlib.Core.Bool.{Bool, true, false}
use mathlib.Core.Logic.{inl, inr}
use mathlib.Core.List.{List, [], ◌++◌, append_assoc, append-nil}
use native.Mathlib.Nat.{add-zero}
use native.Mathlib.Omega.{arith}
use lib.ListN.{length, take, drop, length-append, length-drop, drop_of_length-le}
use borrow.Rule.Slice.PartMut.{put_mid}
use Rattle.octets.specs.Octets.{over}
use Rattle.octets.specs.Run.{Tree, done, tree, tiles, deepest}
use Rattle.octets.proofs.Runs.{false_true, tree_none, tree_broken}
use Rattle.octets.proofs.Lists.{rest, over_none, over_length, over_more, lent}
use Rattle.flags.specs.Flags.{join}
use Rattle.rfc6733.specs.Avp.{complete}
use Rattle.rfc6733.specs.Dictionary.{Dictionary}
use Rattle.record.specs.Record.{record_size, laid}
use Rattle.rfc6733.specs.Records.{avps, errors, record_count}
use Rattle.rfc6733.specs.Groups.{member_records}
use Rattle.flags.proofs.Joins.{join_assoc, zero_join, join_zero}
use Rattle.rfc6733.proofs.Items.{sound}
use Rattle.record.proofs.Layouts.{laid_length, laid_append}
use Rattle.refusal.proofs.Tests.{decide}
use Rattle.rfc6733.proofs.AllTile.{AllTile, both_tile}
use Rattle.rfc6733.proofs.RunRecords.{count_tried}
use Rattle.rfc6733.proofs.Tried.{tried_length}
use Rattle.rfc6733.proofs.Groups.{member_count_lem, member_joined}
use Rattle.avp.specs.declared.AVP.{AVP}
use Rattle.count.proofs.Lent.{Own}
use Rattle.avps.specs.declared.fill.Ran.{Ran}
use Rattle.avps.specs.Fill.{Room, Recorded}

-- Of the run t at a place, whose first record has the index `first`, n records with the flags e are written over the store `before`,
-- which has become `now`. The run r is left, which starts at the place q.
pub record Filling (D : Dictionary) (t r : Tree) (place q depth parent first n e : ℕ) (before now : List ℕ) : Type 0 where
  pub written : List ℕ
  pub written_length : length written ≡ n * record_size
  pub records_are : laid (member_records D place depth parent first t) ≡ written ++ laid (member_records D q depth parent (first + n) r)
  pub store_is : now ≡ over written before
  pub length_kept : length now ≡ length before
  pub tiles_is : tiles t ≡ tiles r
  pub count_is : record_count t ≡ n + record_count r
  pub errors_are : errors D t ≡ join e (errors D r)
  pub no_deeper : deepest r ≤ deepest t
  pub index_fits : first + n ≤ q
  pub all_tile : AllTile t → AllTile r

pub nothing_filled : {D : Dictionary} {t : Tree} {place depth parent first : ℕ} {store : List ℕ} → first ≤ place
    → Filling D t t place (place + 0) depth parent first 0 0 store store
nothing_filled {D} {t} {place} {first = first} {store} fits =
    record {
      written = [];
      written_length = refl;
      records_are = rw (add-zero place, add-zero first);
      store_is = sym (over_none store);
      length_kept = refl;
      tiles_is = refl;
      count_is = omega arith;
      errors_are = sym (zero_join (errors D t));
      no_deeper = omega arith;
      index_fits = omega arith;
      all_tile = λ all. all;
    }

module _ {D : Dictionary} {t : Tree} {place q depth parent first n e : ℕ} {before now : List ℕ} (s : List ℕ) (at : ℕ)
    (f : Filling D t (tree (avps D) (drop at s)) place q depth parent first n e before now) where
  -- where a byte is left of a run that tiles there is a complete AVP
  pub never_stuck : tiles t ≡ true → at < length s → complete (drop at s) ≡ true
  never_stuck whole some = elim (decide (complete (drop at s))) [ inl here ↦ here | inr none ↦ absurd (stuck none) ]
    where
      stuck : complete (drop at s) ≡ false → ⊥
      stuck none =
          let broken = tree_broken (avps D) (sound (avps D).nested) (drop at s) (omega (arith, length-drop at s)) none in
          false_true (sym (ap tiles broken) ∙ sym f.tiles_is ∙ whole)

  -- where none is left all is written
  pub all_filled : length s ≤ at → Recorded D t place depth parent first (record { records = n; errors = e }) before now
  all_filled end =
      let none : tree (avps D) (drop at s) ≡ done = ap (tree (avps D)) (drop_of_length-le s end) ∙ tree_none (avps D) in
      let all = rw none at f in
      record {
        count_is = omega (arith, all.count_is);
        errors_are = rw (all.errors_are, join_zero);
        store_is = rw (all.records_are, append-nil) all.store_is;
      }

-- ---- one AVP more

-- how many bytes a run's records take
pub records_length : (D : Dictionary) (place depth parent first : ℕ) (t : Tree)
    → length (laid (member_records D place depth parent first t)) ≡ record_count t * record_size
records_length D place depth parent first t =
    omega (arith, laid_length (member_records D place depth parent first t), member_count_lem D place depth parent first t)

-- a run has no more records than bytes
count_length : (D : Dictionary) (s : List ℕ) → record_count (tree (avps D) s) ≤ length s
count_length D s = omega (arith, count_tried (tree (avps D) s), tried_length D s)

module _ {D : Dictionary} {s : List ℕ} {whole : Bool} {place left depth parent first : ℕ} {before : List ℕ}
    (fits : Room whole (tree (avps D) s) place (length s) first left (length before)) {at n e : ℕ} {now : List ℕ}
    (f : Filling D (tree (avps D) s) (tree (avps D) (drop at s)) place (place + at) depth parent first n e before now) {a : AVP} {own : List ℕ}
    (o : Own D s at a own) where
  -- there is room for its records in what is left of the store
  pub room_for_one : {index : ℕ} → index ≤ place + at → at + a.size ≤ length s
      → Room whole (tree (avps D) own) (place + at) (length own) index left (length (take (length now - n * record_size) (drop (n * record_size) now)))
  room_for_one early inside =
      let j = o.split in
      let left = ap length (rest now (n * record_size) (omega arith)) ∙ length-drop (n * record_size) now in
      record {
        records_fit = omega arith;
        places_fit = omega arith;
        indices_fit = early;
        depths_fit = omega arith;
        levels_fit = omega arith;
        all_tile = λ sure. (both_tile j (f.all_tile (fits.all_tile sure))).0;
      }

  -- they are written there, and it came back
  pub one_filled : {w : Ran} {back : List ℕ}
      → Recorded D (tree (avps D) own) (place + at) depth parent (first + n) w (take (length now - n * record_size) (drop (n * record_size) now)) back
      → Filling D (tree (avps D) s) (tree (avps D) (drop (at + a.size) s)) place (place + (at + a.size)) depth parent first (n + w.records)
      (join e w.errors) before (put_mid (n * record_size) (length now - n * record_size) now back)
  one_filled {w} {back} one =
      let j = o.split in
      let size = n * record_size in
      let new = laid (member_records D (place + at) depth parent (first + n) (tree (avps D) own)) in
      let next : place + (at + a.size) ≡ place + at + a.size = omega arith in
      let index : first + (n + w.records) ≡ first + n + record_count (tree (avps D) own) = omega (arith, one.count_is) in
      let new_length : length (f.written ++ new) ≡ (n + w.records) * record_size =
      simp length-append (omega (arith, records_length D (place + at) depth parent (first + n) (tree (avps D) own), one.count_is, f.written_length))
      in
      let store : take size now ++ back ≡ over (f.written ++ new) before =
      rw (one.store_is, rest now size (omega arith), f.store_is) (over_more f.written new before size f.written_length)
      in
      rw (lent size now back, next)
      record {
        written = f.written ++ new;
        written_length = new_length;
        records_are = rw (f.records_are, index, member_joined j (place + at) depth parent (first + n), laid_append, append_assoc);
        store_is = store;
        length_kept = rw store (over_length (f.written ++ new) before (omega (arith, new_length)));
        tiles_is = f.tiles_is ∙ j.tiles_is;
        count_is = omega (arith, one.count_is);
        errors_are = rw (f.errors_are, j.errors_are, one.errors_are, join_assoc);
        no_deeper = omega arith;
        index_fits = omega (arith, f.index_fits, one.count_is, o.length_is, count_length D own);
        all_tile = λ all. (both_tile j (f.all_tile all)).1;
      }
