-- Where a run has as many records as headers were tried, every group in it tiles: in one that does not, headers are tried that have no
-- record. So a reader that knows both numbers need not ask a group again.
use Prim.Native.Nat.{ℕ, ◌≤◌}
use mathlib.Core.Path.{◌≡◌, refl, sym, ◌∙◌}
use mathlib.Core.Bool.{Bool, true, false}
use mathlib.Core.List.{List}
use native.Mathlib.Omega.{arith}
use lib.Dec.{eqb}
use Rattle.octets.specs.Run.{Tree, done, broken, plain, group, tree, tiles, tried}
use Rattle.octets.proofs.Runs.{false_true}
use Rattle.record.specs.Kinds.{grouped}
use Rattle.rfc6733.specs.Avp.{code, vendor, payload}
use Rattle.rfc6733.specs.Dictionary.{Dictionary}
use Rattle.rfc6733.specs.Records.{avps, record_count, tiling, avp_kind}
use Rattle.rfc6733.specs.Entered.{entered}
use Rattle.rfc6733.proofs.Alone.{alone, Joined}
use Rattle.rfc6733.proofs.RunRecords.{count_tried}
use Rattle.rfc6733.proofs.Tiling.{tiles_any}

-- as many records as headers tried
abbrev pub AllTile : Tree → Type 0
AllTile t = tried t ≡ record_count t

-- of a run, so of its first AVP and of what follows it
pub both_tile : {D : Dictionary} {n : ℕ} {t a r : Tree} → Joined D n t a r → AllTile t → AllTile a × AllTile r
both_tile {a} {r} j e = (omega (arith, j.tried_is, j.count_is, count_tried a, count_tried r), omega (arith, j.tried_is, j.count_is, count_tried a, count_tried r))

untiled_tried : (t : Tree) → tiles t ≡ false → 1 ≤ tried t
untiled_tried done e = absurd (false_true (sym e))
untiled_tried broken e = omega arith
untiled_tried (plain a rest) e = omega arith
untiled_tried (group a inner rest) e = omega arith

-- of one AVP, so a group tiles, and what is entered in it is the same
pub record Inside (D : Dictionary) (code vendor : ℕ) (s : List ℕ) : Type 0 where
  pub tiles_is : eqb (D.kind code vendor) grouped ≡ true → tiling s ≡ true
  pub all_tile : AllTile (entered D code vendor s)

pub inside_tiles : (D : Dictionary) (a : List ℕ) → AllTile (alone D a) → Inside D (code a) (vendor a) (payload a)
unfolding alone entered avp_kind
inside_tiles D a all = by (eqb (D.kind (code a) (vendor a)) grouped) (tiling (payload a)) refl refl
  where
    by : (g t : Bool) → eqb (D.kind (code a) (vendor a)) grouped ≡ g → tiling (payload a) ≡ t → Inside D (code a) (vendor a) (payload a)
    by false t e u = record { tiles_is = λ y. absurd (false_true (sym e ∙ y)); all_tile = rw e refl }
    by true true e u =
        let inner = rw (e, tiles_any D (payload a) ∙ u) at all in
        record { tiles_is = λ y. u; all_tile = rw (e, u) (omega (arith, inner)) }
    by true false e u =
        let none = tiles_any D (payload a) ∙ u in
        let inner = rw (e, none) at all in
        absurd (omega (arith, inner, untiled_tried (tree (avps D) (payload a)) none))
