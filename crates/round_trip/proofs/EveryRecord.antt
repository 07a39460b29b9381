-- What holds of the record of every AVP holds of every record of a run, by induction over the run. The AVPs stand in the bytes that places
-- point into, and are bytes.
use Prim.Native.Nat.{ℕ, ◌+◌}
use mathlib.Core.Path.{◌≡◌, refl}
use mathlib.Core.Bool.{Bool, true, false}
use mathlib.Core.Logic.{inl, inr}
use mathlib.Core.List.{List, ◌++◌}
use lib.ListN.{length}
use lib.Dec.{eqb}
use Rattle.octets.specs.Octets.{Bytes}
use Rattle.octets.specs.Run.{item, after, Tree, node, tree, tiles}
use Rattle.octets.proofs.Runs.{Parts, tree_none, tree_step, by_run}
use Rattle.refusal.proofs.Tests.{decide}
use Rattle.record.specs.Kinds.{grouped}
use Rattle.record.specs.Record.{Record}
use Rattle.record.specs.Table.{Every}
use Rattle.rfc6733.specs.Avp.{flags, head_size, data_size, payload, complete, Exact}
use Rattle.record.specs.Value.{Value}
use Rattle.rfc6733.specs.Dictionary.{Dictionary}
use Rattle.rfc6733.specs.Records.{avps, avp_kind, value_of, group_value, record_of, records}
use Rattle.rfc6733.specs.Writer.{head_of, stated_data, data_in}
use Rattle.rfc6733.proofs.Alone.{item_exact}
use Rattle.rfc6733.proofs.Complete.{exact_sizes}
use Rattle.rfc6733.proofs.Items.{sound, payload_length}
use Rattle.octets.proofs.Held.{Holds, holds_front, holds_behind, holds_data, bytes_held}
use Rattle.record.specs.Parents.{told_parents, with_parent, parented}
use Rattle.record.proofs.Tables.{every_both}
use Rattle.record.proofs.Parents.{with_every}
use Rattle.rfc6733.specs.Decoder.{run_records}
use Rattle.round_trip.proofs.AvpTrip.{payload_held}

-- an AVP that stands at a place
pub record Stands (pool : List ℕ) (place : ℕ) (a : List ℕ) : Type 0 where
  pub exact : Exact a
  pub bytes : Bytes a
  pub holds : Holds pool place a

-- its record's place points at its data
pub data_is : {pool : List ℕ} (place depth : ℕ) (a : List ℕ) (v : Value) → Stands pool place a → data_in pool (record_of place depth a v) ≡ payload a
unfolding record_of stated_data head_of data_size
data_is {pool} place depth a v st =
    holds_data pool _ _ (payload a) (payload_length a (exact_sizes a st.exact).0) (payload_held pool place a st.exact st.holds)

module _ (D : Dictionary) (pool : List ℕ) (P : Record → Type 0) where
  -- P holds of its record, where it is no group and where it is one
  abbrev OfLeaf : Type 0
  OfLeaf = (place depth : ℕ) (a : List ℕ) → Stands pool place a → eqb (avp_kind D a) grouped ≡ false → P (record_of place depth a (value_of D a))

  abbrev OfGroup : Type 0
  OfGroup =
      (place depth : ℕ) (a : List ℕ) (inner : Tree) → Stands pool place a → eqb (avp_kind D a) grouped ≡ true
      → P (record_of place depth a (group_value D inner))

  module _ (bytes : Bytes pool) (of_leaf : OfLeaf) (of_group : OfGroup) where
    -- an AVP with what is inside it, and what follows
    every_node : (place depth : ℕ) (a : List ℕ) (inner rest : Tree) → Stands pool place a
        → Every P (records D (place + head_size (flags a)) (depth + 1) inner) → Every P (records D (place + length a) depth rest)
        → (b : Bool) → eqb (avp_kind D a) grouped ≡ b → Every P (records D place depth (node true b a inner rest))
    every_node place depth a inner rest st inside follows false e = (of_leaf place depth a st e, follows)
    every_node place depth a inner rest st inside follows true e = (
      of_group place depth a inner st e,
      elim (decide (tiles inner)) [
        | inl t ↦ rw t (every_both P (records D (place + head_size (flags a)) (depth + 1) inner) _ inside follows)
        | inr t ↦ rw t follows
      ],
    )

    -- the run s, wherever it stands
    abbrev Run : List ℕ → Type 0
    Run s = (place depth : ℕ) → Holds pool place s → Every P (records D place depth (tree (avps D) s))

    complete_first : (s : List ℕ) → complete s ≡ true → Parts (avps D) s → Run (payload (item (avps D) s)) → Run (after (avps D) s)
        → (place depth : ℕ) → Holds pool place s
        → let a = item (avps D) s in
        Every P (records D place depth (node true ((avps D).nested a) a (tree (avps D) (payload a)) (tree (avps D) (after (avps D) s))))
    complete_first s whole p inside behind place depth holds =
        let a = item (avps D) s in
        let x = after (avps D) s in
        let parted : Holds pool place (a ++ x) = rw p.whole holds in
        let held = holds_front pool place a x parted in
        let exact = item_exact D s whole in
        every_node place depth a _ _ (record { exact = exact; bytes = bytes_held pool place a bytes held; holds = held })
        (inside _ _ (payload_held pool place a exact held))
        (behind _ _ (holds_behind pool place a x parted))
        ((avps D).nested a)
        refl

    every : (s : List ℕ) → Run s
    every =
        by_run (avps D) (sound (avps D).nested) Run (λ place depth holds. rw tree_none tt)
        (λ s pos h place depth holds.
        rw (tree_step (avps D) (sound (avps D).nested) s pos)
        (elim (decide (complete s)) [
          | inl e ↦ let k = h e in rw e (complete_first s e k.0 k.1 k.2 place depth holds)
          | inr e ↦ rw e tt
        ]))

    -- and with their parents, where P does not look at them
    pub every_run : ((p : ℕ) (r : Record) → P r → P (with_parent p r)) → (s : List ℕ) (place : ℕ) → Holds pool place s → Every P (run_records D place s)
    unfolding run_records parented
    every_run blind s place holds =
        let rs = records D place 1 (tree (avps D) s) in
        with_every P blind (told_parents rs) rs (every s place 1 holds)
