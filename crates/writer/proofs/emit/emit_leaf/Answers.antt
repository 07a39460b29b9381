-- `emit_leaf` meets its contract: header, data and padding are put one after the other, each into a part of the output
-- that is as long as it is, and no part that comes back has another length.
use Prim.Native.Nat.{ℕ, ◌+◌, ◌-◌, ◌≤◌}
use mathlib.Core.Path.{◌≡◌, refl, sym, ◌∙◌}
use mathlib.Core.List.{List, ◌++◌}
use native.Mathlib.Omega.{arith}
use lib.ListN.{length, drop}
use borrow.Rule.Slice.PartMut.{put_mid, same_len_mid}
use Rattle.octets.specs.Octets.{pack, over}
use Rattle.octets.proofs.Lists.{over_length}
use Rattle.rfc6733.specs.Writer.{head_of, head_fields}
use Rattle.round_trip.proofs.Lengths.{head_length}
use Rattle.record.specs.declared.Record.{Record}
use Rattle.writer.proofs.Parts.{leaf_sizes, put_front, leaf_put}
use Rattle.writer.proofs.emit.emit_leaf.Goals as goal
use Rattle.writer.proofs.emit.emit_leaf.Goals.{After-put_head, After-copy}

-- the numbers by which it lends parts, with the header's size h
record Numbers (r : Record) (pool : List ℕ) (room h : ℕ) : Type 0 where
  pub head_is : h ≡ head_of r
  pub long : h ≤ r.length
  pub within : r.place + (r.length - h) ≤ length pool
  pub fits : r.length + r.padding ≤ room

sizes : (c : After-put_head)
    → Numbers c.args.r c.args.pool.now (length c.args.out.now) c.header_size-header_size.result
sizes c =
    let r = c.args.r in
    omega (arith, c.header_size-header_size.ensures, c.requires, leaf_sizes c.args.pool.now r c.requires.leaf)

-- the output with the header, and with the data, is still as long as it was
abbrev headed : After-put_head → List ℕ
headed c = c.put_head.new.out ++ drop c.header_size-header_size.result c.args.out.now

head_put : (c : After-put_head) → headed c ≡ over (pack (head_fields c.args.r c.args.r.length)) c.args.out.now
head_put c =
    let r = c.args.r in
    let long : length (pack (head_fields r r.length)) ≡ c.header_size-header_size.result =
    head_length r r.length ∙ sym c.header_size-header_size.ensures
    in
    put_front (pack (head_fields r r.length)) c.args.out.now long (omega (arith, sizes c)) c.put_head.ensures

headed_length : (c : After-put_head) → length (headed c) ≡ length c.args.out.now
headed_length c =
    let r = c.args.r in
    rw (head_put c) (over_length _ _ (omega (arith, head_length r r.length, sizes c)))

abbrev output : After-copy → List ℕ
output c =
    let h = c.header_size-header_size.result in
    put_mid h (c.args.r.length - h) (c.put_head.new.out ++ drop h c.args.out.now) c.copy.new.dst

copied_length : (c : After-copy)
    → length (c.put_head.new.out ++ drop c.header_size-header_size.result c.args.out.now) ≡ length c.args.out.now
    → length (output c) ≡ length c.args.out.now
copied_length c e =
    let h = c.header_size-header_size.result in
    same_len_mid h (c.args.r.length - h) (c.put_head.new.out ++ drop h c.args.out.now) c.copy.new.dst c.copy.auto.dst ∙ e

pub slice_bounds-copy-end : goal.slice_bounds-copy-end
slice_bounds-copy-end c =
    let p = (goal.at.slice_bounds-copy-end c).After-put_head in
    omega (arith, sizes p, headed_length p)

pub returns : goal.returns
returns c =
    let at = goal.at.returns c in
    let p = at.After-put_head in
    leaf_put c.args.r _ _ c.requires c.header_size-header_size.ensures (head_put p) (headed_length p) refl c.copy.ensures
    (copied_length at.After-copy (headed_length p)) c.put_padding.ensures
