-- What a loop over a run of a table has put so far, and a record with its members: the members' bytes are put into the
-- part of the output after the header, and the header before them.
use Prim.Native.Nat.{ℕ, ◌+◌, ◌-◌, ◌≤◌}
use mathlib.Core.Path.{◌≡◌, refl, sym, ap, ◌∙◌}
use mathlib.Core.List.{List, [], ◌++◌, append_assoc, append-nil}
use native.Mathlib.Omega.{arith}
use lib.ListN.{length, drop, length-append}
use borrow.Rule.Slice.PartMut.{put_mid}
use Rattle.octets.specs.Octets.{pack, over, Put}
use Rattle.octets.proofs.Lists.{over_none, over_more, over_before, lent}
use Rattle.record.specs.Kinds.{grouped}
use Rattle.record.specs.Record.{Record}
use Rattle.record.specs.Forest.{Forest, none}
use Rattle.record.specs.Table.{table_of}
use Rattle.rfc6733.specs.Writer.{head_of, avp_bytes, forest_bytes, head_fields, data_in}
use Rattle.round_trip.specs.Forests.{count}
use Rattle.round_trip.specs.Rules.{Valid}
use Rattle.round_trip.specs.Tables.{run, one}
use Rattle.round_trip.proofs.Lengths.{head_length}
use Rattle.rules.proofs.Records.{is_group_lem, no_group}
use Rattle.writer.specs.declared.emit.Taken.{Taken}
use Rattle.writer.specs.Emitting.{LeafRoom, Done}
use Rattle.writer.proofs.Parts.{leaf_sizes}
use Rattle.writer.proofs.Steps.{AtFront, members, from, bytes_size, Passed, none_passed, Step}

-- ---- a run, record by record

-- of the run f, n records are passed and their b bytes put over `before`, which is `now`; the table from there on is s
pub record Going (pool : List ℕ) (depth : ℕ) (f : Forest) (s : List ℕ) (n b : ℕ) (before now : List ℕ) : Type 0 where
  pub passed : Passed pool depth f s n b
  pub put : List ℕ
  pub size_is : length put ≡ b
  pub bytes_are : forest_bytes pool f ≡ put ++ forest_bytes pool (run depth s)
  pub out_is : now ≡ over put before

pub none_put : {pool : List ℕ} {depth : ℕ} {s out : List ℕ} → Valid depth (length pool) (table_of s)
    → Going pool depth (run depth s) s 0 0 out out
none_put {out = out} v =
    record { passed = none_passed v; put = []; size_is = refl; bytes_are = refl; out_is = sym (over_none out) }

pub one_put : {pool : List ℕ} {depth : ℕ} {f : Forest} {table : List ℕ} {n b : ℕ} {r : Record} {before now : List ℕ}
    {t : Taken} {back : List ℕ}
    → Step pool depth f table n b r → Going pool depth f (from table n) n b before now
    → Done (one (from table n)) pool t (drop b now) back
    → Going pool depth f (from table (n + t.records)) (n + t.records) (b + t.size) before (put_mid b (length now - b) now back)
one_put {pool} {depth} {f} {table} {n} {b} {r} {before} {now} {t} {back} s g d =
    let m = forest_bytes pool (one (from table n)) in
    rw (lent b now back, d.records_are, d.size_is)
    (record {
      passed = s.passed;
      put = g.put ++ m;
      size_is = simp length-append (omega (arith, g.size_is));
      bytes_are = g.bytes_are ∙ rw (s.run_is, s.one_is) (simp (append-nil, append_assoc));
      out_is = rw (d.out_is, g.out_is) (over_more g.put m before b g.size_is);
    })

pub all_put : {pool : List ℕ} {depth : ℕ} {f : Forest} {s : List ℕ} {t : Taken} {before now : List ℕ} → run depth s ≡ none
    → Going pool depth f s t.records t.size before now → Done f pool t before now
all_put {pool} {f = f} e g =
    let b : forest_bytes pool f ≡ g.put = g.bytes_are ∙ rw (e, append-nil) in
    let c = ap count e in
    record { records_are = omega (arith, g.passed); size_is = rw b (sym g.size_is); out_is = rw b g.out_is }

-- ---- one record with its members

module _ (pool : List ℕ) {s : List ℕ} {r : Record} (a : AtFront (length pool) s r) where
  -- a group has no padding
  group_bytes : r.kind ≡ grouped
      → let inside = forest_bytes pool (members r.depth s) in
      forest_bytes pool (one s) ≡ pack (head_fields r (head_of r + length inside)) ++ inside
  unfolding avp_bytes
  group_bytes e = let g = is_group_lem r e in rw (a.one_is, g) (simp ((a.good.group g).padding_is, append-nil))

  pub group_long : r.kind ≡ grouped → bytes_size pool (one s) ≡ head_of r + bytes_size pool (members r.depth s)
  group_long e = rw (group_bytes e, length-append, head_length)

  pub group_done : r.kind ≡ grouped → {t : Taken} {before back last : List ℕ} {h n : ℕ} → h ≡ head_of r → h ≤ length before
      → n ≡ h + t.size → Done (members r.depth s) pool t (drop h before) back
      → last ≡ over (pack (head_fields r n)) (put_mid h (length before - h) before back)
      → Done (one s) pool (record { records = 1 + t.records; size = n }) before last
  group_done e {before = before} {back = back} {h = h} {n = n} head fits sum d put =
      let long = group_long e in
      let is : head_of r + bytes_size pool (members r.depth s) ≡ n = omega (arith, d.size_is) in
      record {
        records_are = omega (arith, a.count_is, d.records_are);
        size_is = omega arith;
        out_is =
            rw (group_bytes e, is, put, lent h before back, d.out_is)
            (over_before _ _ before h (head_length r n ∙ sym head) fits);
      }

  leaf_bytes : (r.kind ≡ grouped → ⊥) → forest_bytes pool (one s) ≡ avp_bytes r (data_in pool r)
  leaf_bytes e = rw (a.one_is, no_group r e, append-nil)

  pub leaf_room : (r.kind ≡ grouped → ⊥) → {room : ℕ} → bytes_size pool (one s) ≤ room → LeafRoom r pool room
  leaf_room e h =
      let l = a.good.leaf (no_group r e) in
      record { leaf = l; fits = rw (leaf_bytes e, (leaf_sizes pool r l).avp_is) at h }

  pub leaf_done : (r.kind ≡ grouped → ⊥) → {n : ℕ} {before last : List ℕ} → Put n (avp_bytes r (data_in pool r)) before last
      → Done (one s) pool (record { records = 1; size = n }) before last
  leaf_done e p =
      record {
        records_are = sym (a.alone e);
        size_is = rw (leaf_bytes e) p.size_is;
        out_is = rw (leaf_bytes e) p.out_is;
      }
