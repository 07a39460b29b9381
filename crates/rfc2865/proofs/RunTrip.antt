-- The records of a run that tiles, written again: they keep the rules, fit their bytes, and give back the run. Its attributes stand one after
-- the other in the bytes that places point into: what stands at a place has its first attribute there, and what follows it further on.
use Prim.Native.Nat.{ℕ, ◌+◌, ◌≤◌}
use mathlib.Core.Path.{◌≡◌, refl, sym, ap₂, ◌∙◌}
use mathlib.Core.Bool.{true}
use mathlib.Core.Logic.{inl, inr}
use mathlib.Core.List.{List, [], ◌∷◌, ◌++◌, map}
use native.Mathlib.Omega.{arith}
use lib.ListN.{length}
use Rattle.octets.specs.Octets.{Bytes}
use Rattle.octets.specs.Run.{item, after, Tree, done, broken, plain, group, tree, tiles, covered, items}
use Rattle.octets.proofs.Runs.{false_true, Parts, tree_none, tree_broken, tree_plain, by_run, covered_all}
use Rattle.octets.proofs.Held.{bytes_item, bytes_after, Holds, holds_front, holds_behind}
use Rattle.refusal.proofs.Tests.{decide}
use Rattle.record.specs.Record.{Record}
use Rattle.record.specs.Table.{bare, Every}
use Rattle.rfc2865.specs.Attribute.{complete, attributes}
use Rattle.rfc2865.specs.Records.{record_of, records}
use Rattle.rfc2865.specs.Packet.{most_packet}
use Rattle.rfc2865.specs.Writer.{run_bytes}
use Rattle.rfc2865.specs.Seen.{Seen, seen_in, seen}
use Rattle.rfc2865.proofs.Items.{Whole, complete_whole, item_same, item_length, item_whole, sound}
use Rattle.rfc2865.proofs.Rules.{Kept}
use Rattle.rfc2865.proofs.AttributeTrip.{Stands, same_seen, same_bytes, keeps_rules}

-- attributes that stand one after the other, the first at a place of a pool
abbrev pub AllStand : List ℕ → ℕ → List (List ℕ) → Type 0
AllStand pool place [] = Unit {0}
AllStand pool place (a ∷ more) = Stands pool place a × AllStand pool (place + length a) more

module _ (pool : List ℕ) where
  -- ---- those of a run do

  first_stands : (s : List ℕ) (place : ℕ) → Whole s → Parts attributes s → Bytes s → Holds pool place s → place + length s ≤ most_packet
      → Stands pool place (item attributes s)
  first_stands s place w p b held near =
      record {
        whole = item_whole s w;
        length_is = (item_same s w).length_is ∙ sym (item_length s w);
        holds = holds_front pool place (item attributes s) (after attributes s) (rw p.whole held);
        bytes = bytes_item attributes s b;
        near = omega (arith, p.item_length, p.there);
      }

  pub all_stand : (s : List ℕ) (place : ℕ) → Bytes s → Holds pool place s → place + length s ≤ most_packet → tiles (tree attributes s) ≡ true
      → AllStand pool place (items (tree attributes s))
  all_stand =
      by_run attributes sound
      (λ (s : List ℕ). (place : ℕ) → Bytes s → Holds pool place s → place + length s ≤ most_packet → tiles (tree attributes s) ≡ true
      → AllStand pool place (items (tree attributes s)))
      (λ place b held near t. rw tree_none tt)
      (λ s pos h place b held near t.
      elim (decide (complete s)) [
        | inl e ↦
            let p = (h e).0 in
            let step = tree_plain attributes sound s e refl in
            let a = item attributes s in
            let both : Holds pool place (a ++ after attributes s) = rw p.whole held in
            let later =
            (h e).2 (place + length a) (bytes_after attributes s b) (holds_behind pool place a (after attributes s) both)
            (omega (arith, p.item_length, p.after_length, p.there))
            (rw step at t)
            in
            rw step (first_stands s place (complete_whole s e) p b held near, later)
        | inr e ↦ absurd (false_true (rw (tree_broken attributes sound s pos e) at t))
      ])

  -- ---- what holds of each record

  pub every : (P : Record → Type 0) → ((place : ℕ) (a : List ℕ) → Stands pool place a → P (record_of place a))
      → (own : List (List ℕ)) (place : ℕ) → AllStand pool place own → Every P (records place own)
  every P one [] place st = tt
  every P one (a ∷ more) place st = (one place a st.0, every P one more (place + length a) st.1)

  pub all_kept : (own : List (List ℕ)) (place : ℕ) → AllStand pool place own → Kept (length pool) (map bare (records place own))
  all_kept [] place st = tt
  all_kept (a ∷ more) place st = (keeps_rules pool place a st.0, all_kept more (place + length a) st.1)

  pub all_seen : (own : List (List ℕ)) (place : ℕ) → AllStand pool place own → seen pool (records place own) ≡ map seen_in own
  all_seen [] place st = refl
  all_seen (a ∷ more) place st =
      ap₂ (λ (x : Seen) (y : List Seen). x ∷ y) (same_seen pool place a st.0) (all_seen more (place + length a) st.1)

  -- ---- the run's bytes

  covers : (t : Tree) (place : ℕ) → AllStand pool place (items t) → run_bytes pool (map bare (records place (items t))) ≡ covered t
  covers done place st = refl
  covers broken place st = refl
  covers (plain a rest) place st =
      ap₂ (λ (x y : List ℕ). x ++ y) (same_bytes pool place a st.0) (covers rest (place + length a) st.1)
  covers (group a inner rest) place st =
      ap₂ (λ (x y : List ℕ). x ++ y) (same_bytes pool place a st.0) (covers rest (place + length a) st.1)

  pub same_run : (s : List ℕ) (place : ℕ) → tiles (tree attributes s) ≡ true → AllStand pool place (items (tree attributes s))
      → run_bytes pool (map bare (records place (items (tree attributes s)))) ≡ s
  same_run s place tiled st = covers (tree attributes s) place st ∙ covered_all attributes sound s tiled
