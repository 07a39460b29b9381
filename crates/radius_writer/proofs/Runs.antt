-- What a loop over a table has put so far: the bytes of the records passed stand over the front of the output, and the next
-- attribute is put right behind them.
use Prim.Native.Nat.{ℕ, ◌+◌, ◌-◌}
use mathlib.Core.Path.{◌≡◌, refl, sym, ◌∙◌}
use mathlib.Core.List.{List, [], ◌∷◌, ◌++◌, append_assoc, append-nil}
use native.Mathlib.Omega.{arith}
use lib.ListN.{length, drop, length-append}
use borrow.Rule.Slice.PartMut.{put_mid}
use Rattle.octets.specs.Octets.{over}
use Rattle.octets.proofs.Lists.{over_none, over_more, lent}
use Rattle.record.specs.Record.{Record}
use Rattle.rfc2865.specs.Writer.{attribute_bytes, run_bytes}
use Rattle.radius_size.specs.Sizing.{lengths}
use Rattle.rfc2865.proofs.Lengths.{attribute_length_lem}
use Rattle.rfc2865.proofs.Rules.{Kept, keeps_good}

-- of the records `all`, those before `left` are passed and their b bytes put over `before`, which is `now`
pub record Going (pool : List ℕ) (all left : List Record) (b : ℕ) (before now : List ℕ) : Type 0 where
  pub kept : Kept (length pool) left
  pub put : List ℕ
  pub size_is : length put ≡ b
  pub lengths_are : lengths all ≡ b + lengths left
  pub bytes_are : run_bytes pool all ≡ put ++ run_bytes pool left
  pub out_is : now ≡ over put before

module _ {pool : List ℕ} {all : List Record} where
  pub none_put : {out : List ℕ} → Kept (length pool) all → Going pool all all 0 out out
  none_put {out} k =
      record { kept = k; put = []; size_is = refl; lengths_are = omega arith; bytes_are = refl; out_is = sym (over_none out) }

  pub one_put : {left rest : List Record} {r : Record} {b : ℕ} {before now back : List ℕ} → left ≡ r ∷ rest
      → Going pool all left b before now → back ≡ over (attribute_bytes pool r) (drop b now)
      → Going pool all rest (b + r.length) before (put_mid b (length now - b) now back)
  one_put {left} {rest} {r} {b} {before} {now} {back} is g one =
      let m = attribute_bytes pool r in
      let k : Kept (length pool) (r ∷ rest) = rw is at g.kept in
      rw (lent b now back)
      (record {
        kept = k.1;
        put = g.put ++ m;
        size_is = simp length-append (omega (arith, g.size_is, attribute_length_lem pool r (keeps_good (length pool) r k.0)));
        lengths_are = g.lengths_are ∙ rw is (omega arith);
        bytes_are = g.bytes_are ∙ rw is (simp append_assoc);
        out_is = rw (one, g.out_is) (over_more g.put m before b g.size_is);
      })

  pub all_put : {left : List Record} {b : ℕ} {before now : List ℕ} → left ≡ [] → Going pool all left b before now
      → now ≡ over (run_bytes pool all) before
  all_put none g = let e : run_bytes pool all ≡ g.put = g.bytes_are ∙ rw (none, append-nil) in rw e g.out_is
