-- `copy` meets its contract: four bytes that are read as a number and put again are the same bytes.
use Prim.Native.Nat.{ℕ, ◌≤◌}
use mathlib.Core.Path.{◌≡◌, sym, ◌∙◌}
use mathlib.Core.List.{List}
use native.Mathlib.Omega.{arith}
use lib.ListN.{length}
use lib.Seq.{sets, take_all}
use Rattle.octets.specs.Octets.{be, Bytes, octets, over}
use Rattle.octets.proofs.Lists.{all_put, bytes_put}
use Rattle.octets.proofs.Numbers.{written_read}
use Rattle.word.proofs.Part.{number_replaced}
use Rattle.body.proofs.copy.Goals as goal

-- four bytes, read as a number and put
word_copied : (src dst : List ℕ) (v : ℕ) → Bytes src → length src ≡ 4 → 4 ≤ length dst → v ≡ be 4 src 0
    → sets dst 0 (octets 4 v) ≡ over src dst
word_copied src dst v bytes four room read =
    let same : octets 4 (be 4 src 0) ≡ src = written_read 4 src 0 (omega arith) bytes ∙ take_all 4 src (omega arith) in
    rw (read, same) (bytes_put src dst (omega arith))

pub returns-then-src-eq4 : goal.returns-then-src-eq4
returns-then-src-eq4 c =
    let bytes : Bytes c.args.src.now = λ i. omega (arith, c.type_inv.src i) in
    let put = number_replaced c.args.dst.now 0 _ 4 c.be_u32.result c.put_u32.ensures (omega arith) in
    put.is
    ∙ word_copied _ _ _ bytes (omega arith) (omega arith) c.be_u32.ensures
    ∙ sym (all_put _ _ (omega arith))
