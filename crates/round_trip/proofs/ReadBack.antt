-- What the writer wrote, read by the definition: it tiles, with the same codes, flags, vendors, data and padding at the top level as
-- the table's records of depth 1, a group's data being its members' bytes. A forest that keeps the rules is read as a run of its AVPs,
-- whichever of them the dictionary enters: the first is read back, and what follows it is the bytes of the rest.
use Prim.Native.Nat.{ℕ, ◌^◌, ◌<◌}
use mathlib.Core.Path.{◌≡◌, refl, ◌∙◌}
use mathlib.Core.Bool.{true}
use mathlib.Core.Logic.{inl, inr}
use mathlib.Core.List.{List, ◌∷◌, ◌++◌}
use native.Mathlib.Omega.{arith}
use lib.ListN.{length, length-append}
use Rattle.octets.specs.Octets.{Bytes}
use Rattle.octets.specs.Run.{tree, tiles}
use Rattle.octets.proofs.Runs.{tree_none}
use Rattle.refusal.specs.Answer.{accepted, passes}
use Rattle.rfc6733.specs.Header.{message_length, header_refusals}
use Rattle.rfc6733.specs.Avp.{Exact}
use Rattle.rfc6733.specs.Dictionary.{Dictionary}
use Rattle.rfc6733.specs.Records.{avps}
use Rattle.rfc6733.specs.Decoder.{message_body}
use Rattle.record.specs.Forest as table
use Rattle.record.specs.Forest.{Forest, none, forest, flat}
use Rattle.record.specs.Table.{table_of, of_depth, AllFit}
use Rattle.rfc6733.specs.Writer.{Fields, avp_bytes, forest_bytes, body_of, table_bytes, written}
use Rattle.rfc6733.proofs.Joining.{avp_before}
use Rattle.rfc6733.proofs.Messages.{message_read}
use Rattle.refusal.proofs.Tests.{decide}
use Rattle.round_trip.specs.Forests.{size}
use Rattle.round_trip.specs.Rules.{Kept}
use Rattle.round_trip.specs.Tops.{top_of, tops, top_records, roots}
use Rattle.round_trip.proofs.Shape.{flat_forest}
use Rattle.round_trip.proofs.Kept.{valid_kept, roots_table}
use Rattle.round_trip.proofs.Lengths.{head_low, avp_length_lem, body, long, message_length_lem}
use Rattle.record.proofs.Tables.{fit_after, table_fits}
use Rattle.round_trip.proofs.AvpBack.{exact_back, top_back}
use Rattle.round_trip.proofs.Written.{written_writable}

-- ---- an AVP before other bytes

one_back : (D : Dictionary) (a x : List ℕ) → Exact a
    → (tiles (tree (avps D) (a ++ x)) ≡ tiles (tree (avps D) x)) × (tops (tree (avps D) (a ++ x)) ≡ top_of a ∷ tops (tree (avps D) x))
one_back D a x exact =
    rw (avp_before D a x exact) (elim (decide ((avps D).nested a)) [ inl e ↦ rw e (refl, refl) | inr e ↦ rw e (refl, refl) ])

-- ---- a forest

record Back (D : Dictionary) (pool : List ℕ) (f : Forest) : Type 0 where
  tiled : tiles (tree (avps D) (forest_bytes pool f)) ≡ true
  same : tops (tree (avps D) (forest_bytes pool f)) ≡ top_records pool f

back : (D : Dictionary) (pool : List ℕ) (f : Forest) → Kept (length pool) f → AllFit (flat f) → length (forest_bytes pool f) < 256 ^ 3 → Back D pool f
back D pool none k fits short = record { tiled = rw tree_none; same = rw tree_none }
back D pool (table.node r i t) k fits short =
    let l = long pool i k.1 in
    let b = body pool r.depth r (forest_bytes pool i) (size i) k.0 l.is l.words in
    let inside = body_of pool r (forest_bytes pool i) in
    let own = avp_length_lem r inside b.padded_is.few in
    let all = length-append (avp_bytes r inside) (forest_bytes pool t) in
    let low = head_low r in
    let e = exact_back r.depth (length pool) r inside k.0 fits.0 b.padded_is (omega arith) in
    let q = top_back r.depth (length pool) r inside k.0 fits.0 b.padded_is (omega arith) in
    let rest = back D pool t k.2 (fit_after (flat i) (flat t) fits.1) (omega arith) in
    let o = one_back D (avp_bytes r inside) (forest_bytes pool t) e in
    record { tiled = o.0 ∙ rest.tiled; same = o.1 ∙ rw (q, rest.same) }

-- ---- a message

pub record ReadBack (D : Dictionary) (f : Fields) (table pool : List ℕ) (n : ℕ) : Type 0 where
  pub header : passes (header_refusals (table_bytes f table pool)) ≡ true
  pub stated : message_length (table_bytes f table pool) ≡ n
  pub tiled : tiles (tree (avps D) (message_body (table_bytes f table pool))) ≡ true
  pub same_tops : tops (tree (avps D) (message_body (table_bytes f table pool))) ≡ top_records pool (forest (table_of table))
  pub depth_one : roots (forest (table_of table)) ≡ of_depth 1 (table_of table)

pub read_back : (D : Dictionary) (f : Fields) (table pool : List ℕ) (room n : ℕ) → Bytes table → written f table pool room ≡ accepted n
    → ReadBack D f table pool n
unfolding table_bytes
read_back D f table pool room n bytes e =
    let w = written_writable f table pool room n e in
    let rs = table_of table in
    let m = forest_bytes pool (forest rs) in
    let long = message_length_lem f m in
    let r = message_read f m (omega (arith, w.0.short)) in
    let fit : AllFit (flat (forest rs)) = rw (flat_forest rs) (table_fits table bytes) in
    let b = back D pool (forest rs) (valid_kept 1 (length pool) rs w.0.valid) fit (omega (arith, w.0.short)) in
    record {
      header = r.header;
      stated = omega arith;
      tiled = rw r.body_is b.tiled;
      same_tops = rw r.body_is b.same;
      depth_one = roots_table (length pool) rs w.0.valid;
    }
