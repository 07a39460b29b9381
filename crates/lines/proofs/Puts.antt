-- Text that is put piece by piece: a piece after another is both as one.
use Prim.Native.Nat.{ℕ, suc, ◌+◌, ◌-◌, ◌≤◌, ◌<◌}
use mathlib.Core.Path.{◌≡◌, refl, sym, ap, ◌∙◌}
use mathlib.Core.List.{List, [], ◌∷◌, ◌++◌, append_assoc, append-nil}
use native.Mathlib.Numerals.{add-one}
use native.Mathlib.Omega.{arith}
use lib.ListN.{length, take, drop, set, length-append, length-take, length-drop}
use lib.Seq.{drop-cons, set_at}
use borrow.Rule.Slice.PartMut.{put_mid}
use Rattle.octets.specs.Octets.{over, Put}
use Rattle.octets.proofs.Lists.{rest, lent, over_none, over_more}
use Rattle.lines.proofs.Decimals.{decimal_is}

-- bytes that were copied over the front
pub front_put : {n : ℕ} {new : List ℕ} (text out : List ℕ) → n ≡ length text → new ≡ text → Put n text out (new ++ drop n out)
unfolding over
front_put text out size same = record { size_is = size; out_is = rw (same, size) }

-- a byte after them
pub byte_after : (n : ℕ) (text out : List ℕ) (v : ℕ) → n ≡ length text → n < length out
    → set (text ++ drop n out) n v ≡ (text ++ (v ∷ [])) ++ drop (length (text ++ (v ∷ []))) out
byte_after n text out v size room =
    rw (drop-cons out n 0 room, length-append, ← size, add-one)
    (set_at text _ (drop (suc n) out) v n (sym size) ∙ sym (append_assoc text (v ∷ []) (drop (suc n) out)))

-- the digits of a number and a byte after them
pub ruleset number_put = (decimal_is, byte_after, length-take, length-append)

length_put : {n : ℕ} {text before out : List ℕ} → Put n text before out → length out ≡ n + (length before - n)
unfolding over
length_put p = omega (arith, p.size_is, simp (length-append, length-drop) at (ap length p.out_is))

-- a piece more, in the part that is left
pub put_more : {n k : ℕ} {a b before mid back : List ℕ} → Put n a before mid → Put k b (take (length mid - n) (drop n mid)) back
    → Put (n + k) (a ++ b) before (put_mid n (length mid - n) mid back)
put_more {n} {k} {a} {b} {before} {mid} {back} p q =
    record {
      size_is = simp length-append (omega (arith, p.size_is, q.size_is));
      out_is = rw (lent n mid back, q.out_is, rest mid n (omega (arith, length_put p)), p.out_is) (over_more a b before n (sym p.size_is));
    }

-- ---- a text whose first pieces were put, and what is left of it

pub record Passed (text left before out : List ℕ) (at : ℕ) : Type 0 where
  pub room : at + length left ≤ length out
  pub done : List ℕ
  pub put : Put at done before out
  pub text_is : text ≡ done ++ left

pub none_passed : (text out : List ℕ) → length text ≤ length out → Passed text text out out 0
none_passed text out room =
    record { room = omega arith; done = []; put = record { size_is = refl; out_is = sym (over_none out) }; text_is = refl }

pub passed : {text before out back : List ℕ} {at k : ℕ} (piece left : List ℕ) → Passed text (piece ++ left) before out at
    → Put k piece (take (length out - at) (drop at out)) back
    → Passed text left before (put_mid at (length out - at) out back) (at + k)
passed {out = out} piece left p q =
    let put = put_more p.put q in
    record {
      room = omega (arith, length_put p.put, length_put put, q.size_is, length-append piece left, p.room);
      done = p.done ++ piece;
      put = put;
      text_is = p.text_is ∙ sym (append_assoc p.done piece left);
    }

-- the last piece
pub last_passed : {text piece before out back : List ℕ} {at k : ℕ} → Passed text piece before out at
    → Put k piece (take (length out - at) (drop at out)) back
    → Put (at + k) text before (put_mid at (length out - at) out back)
last_passed p q = rw p.text_is (put_more p.put q)

pub all_passed : {text before out : List ℕ} {at : ℕ} → Passed text [] before out at → Put at text before out
all_passed p = rw (p.text_is, append-nil) p.put
