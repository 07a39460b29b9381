-- Damage in the bytes of a run, for every dictionary: where the data of a record are replaced by as many other bytes, and its AVP is not taken as
-- Grouped, the tree changes in that AVP alone. By induction over the run: the AVP is the first, or stands inside the first, or behind it; and an AVP
-- with other data is complete as it was, and has the same header and padding.
use Prim.Native.Nat.{ℕ, zero, suc, ◌+◌, ◌-◌, ◌≤◌}
use mathlib.Core.Path.{◌≡◌, refl, sym, ap, ap₂, ◌∙◌}
use mathlib.Core.Bool.{Bool, true, false}
use mathlib.Core.Logic.{inl, inr}
use mathlib.Core.List.{List, ◌∷◌, ◌++◌}
use native.Mathlib.Omega.{arith}
use lib.Dec.{eqb}
use lib.ListN.{length, drop, length-append}
use lib.Seq.{sets, length-sets}
use Rattle.octets.specs.Octets.{be}
use Rattle.octets.specs.Run.{item, after, Tree, node, tree, tiles}
use Rattle.octets.proofs.Runs.{false_true, tree_none, tree_broken, by_run}
use Rattle.octets.proofs.Replacing.{sets_front, sets_behind, drop_sets, be_sets, part_sets}
use Rattle.refusal.proofs.Tests.{decide}
use Rattle.flags.specs.Flags.{bit}
use Rattle.record.specs.Record.{Record}
use Rattle.record.proofs.Standing.{none_there, in_parts}
use Rattle.record.specs.Kinds.{grouped}
use Rattle.record.specs.Value.{Value}
use Rattle.rfc6733.specs.Avp.{code, flags, avp_length, vendor_bit, head_size, vendor, data_size, avp_size, payload, pads, complete, Exact}
use Rattle.rfc6733.specs.Dictionary.{Dictionary}
use Rattle.rfc6733.specs.Damage.{taken_as_grouped}
use Rattle.rfc6733.specs.Records.{avps, avp_kind, value_of, group_value, record_of, records, record_count}
use Rattle.rfc6733.specs.Writer.{head_of, stated_data}
use Rattle.rfc6733.proofs.Complete.{exact_sizes, whole_complete}
use Rattle.rfc6733.proofs.Items.{with_vendor, sound, payload_length}
use Rattle.rfc6733.proofs.Alone.{item_exact}
use Rattle.rfc6733.proofs.RunRecords.{records_count}
use Rattle.rfc6733.proofs.Joining.{avp_before}
use Rattle.rfc6733.proofs.Damage.{Refilled, member_count, Changed, here, past, past_group, inside}

-- ---- one AVP

-- other bytes within its data
module _ (new a : List ℕ) (exact : Exact a) (at : ℕ) (low : head_size (flags a) ≤ at) (high : at + length new ≤ avp_length a) where
  abbrev b : List ℕ
  b = sets a at new

  refilled : Refilled a b
  unfolding vendor pads
  refilled =
      let w = exact_sizes a exact in
      let h = w.2 in
      let room : at + length new ≤ length a = omega (arith, w.1, exact.size_is) in
      let f : flags b ≡ flags a = be_sets new 1 a at 4 (omega (arith, h.low)) room in
      let l : avp_length b ≡ avp_length a = be_sets new 3 a at 5 (omega (arith, h.low)) room in
      record {
        code_is = be_sets new 4 a at 0 (omega (arith, h.low)) room;
        flags_is = f;
        length_is = l;
        vendor_is =
            rw f
            (elim (decide (bit vendor_bit (flags a))) [ inl e ↦ rw (e, be_sets new 4 a at 8 (omega (arith, with_vendor (flags a) e)) room) | inr e ↦ rw e ]);
        pads_are = rw l (ap (λ (x : List ℕ). be 3 x 0) (drop_sets new a at (avp_length a) high (omega (arith, w.1, exact.size_is))));
        size_is = length-sets a at new;
      }

  refilled_exact : Exact b
  unfolding avp_size data_size
  refilled_exact =
      let r = refilled in
      let w = exact_sizes a exact in
      let z : avp_size b ≡ avp_size a = rw (r.length_is, r.flags_is) in
      let h = ap head_size r.flags_is in
      record {
        whole = whole_complete b (record { eight = omega (arith, r.size_is, w.0.eight); long = omega (arith, h, r.length_is, w.0.long); room = omega (arith, z, r.size_is, w.0.room) });
        size_is = z ∙ exact.size_is ∙ sym r.size_is;
      }

refilled_payload : (new a : List ℕ) → Exact a → (at : ℕ) → at + length new ≤ data_size a
    → payload (sets a (head_size (flags a) + at) new) ≡ sets (payload a) at new
unfolding payload data_size
refilled_payload new a exact at le =
    let w = exact_sizes a exact in
    let h = head_size (flags a) in
    let r = refilled new a exact (h + at) (omega arith) (omega (arith, w.0.long, w.1.data_is)) in
    rw (r.length_is, r.flags_is) (part_sets new a h (avp_length a - h) at (omega (arith, w.1.data_is)) (omega (arith, w.0.long, w.1, exact.size_is)))

-- ---- an AVP's own record

record Own (place : ℕ) (a : List ℕ) (r : Record) : Type 0 where
  code_is : r.code ≡ code a
  vendor_is : r.vendor ≡ vendor a
  place_is : r.place ≡ place + head_size (flags a)
  data_is : stated_data r ≡ data_size a

own_of : (place depth : ℕ) (a : List ℕ) (v : Value) (r : Record) → record_of place depth a v ≡ r → Own place a r
unfolding record_of stated_data head_of data_size
own_of place depth a v r same = rw (← same) (record { code_is = refl; vendor_is = refl; place_is = refl; data_is = refl })

-- ---- a run

module _ (D : Dictionary) (new : List ℕ) where
  -- what is asked of the record
  pub record Asked (r : Record) : Type 0 where
    pub no_group : taken_as_grouped D r ≡ false
    pub same_length : length new ≡ stated_data r

  -- where its data stand in the run s, and what becomes of the tree t
  pub record Found (s : List ℕ) (t : Tree) (place k : ℕ) (r : Record) : Type 0 where
    pub at : ℕ
    pub place_is : r.place ≡ place + at
    pub room : at + length new ≤ length s
    pub changed : Changed k t (tree (avps D) (sets s at new))

  abbrev Claim : List ℕ → Type 0
  Claim s =
      (place depth k : ℕ) (r : Record) (behind : List Record) → drop k (records D place depth (tree (avps D) s)) ≡ r ∷ behind → Asked r
      → Found s (tree (avps D) s) place k r

  -- with other data it is a group as it was
  same_nested : (a c : List ℕ) → Refilled a c → (avps D).nested c ≡ (avps D).nested a
  unfolding avp_kind
  same_nested a c f = ap₂ (λ (n v : ℕ). eqb (D.kind n v) grouped) f.code_is f.vendor_is

  no_group_own : (place depth : ℕ) (a : List ℕ) (v : Value) (r : Record) → record_of place depth a v ≡ r
      → taken_as_grouped D r ≡ false → (avps D).nested a ≡ false
  unfolding avp_kind
  no_group_own place depth a v r same e = let o = own_of place depth a v r same in
      ap₂ (λ (n w : ℕ). eqb (D.kind n w) grouped) (sym o.code_is) (sym o.vendor_is) ∙ e

  module _ (a x : List ℕ) (exact : Exact a) (place depth : ℕ) where
    abbrev inner : Tree
    inner = tree (avps D) (payload a)

    abbrev rest : Tree
    rest = tree (avps D) x

    abbrev Here : Bool → ℕ → Record → Type 0
    Here b k r = Found (a ++ x) (node true b a inner rest) place k r

    -- its own data
    at_first : (r : Record) → record_of place depth a (value_of D a) ≡ r → Asked r → (avps D).nested a ≡ false → Here false 0 r
    at_first r same asked n =
        let o = own_of place depth a (value_of D a) r same in
        let w = exact_sizes a exact in
        let h = head_size (flags a) in
        let le : h + length new ≤ avp_length a = omega (arith, w.0.long, w.1.data_is, o.data_is, asked.same_length) in
        let f = refilled new a exact h (omega arith) le in
        let room : h + length new ≤ length a = omega (arith, w.1, exact.size_is) in
        record {
          at = h;
          place_is = o.place_is;
          room = omega (arith, length-append a x);
          changed =
              rw (sets_front new a x h room, avp_before D (sets a h new) x (refilled_exact new a exact h (omega arith) le), same_nested a _ f, n)
              (here f);
        }

    -- those of an AVP behind it
    at_later : (b : Bool) (k j : ℕ) (r : Record) → (avps D).nested a ≡ b
        → ((u : Tree) → Changed k rest u → Changed j (node true b a inner rest) (node true b a inner u))
        → Found x rest (place + length a) k r → Here b j r
    at_later b k j r n step f =
        record {
          at = length a + f.at;
          place_is = omega (arith, f.place_is);
          room = omega (arith, f.room, length-append a x);
          changed = rw (sets_behind new a x f.at f.room, avp_before D a (sets x f.at new) exact, n) (step _ f.changed);
        }

    -- those of an AVP inside it
    at_inside : (k : ℕ) (r : Record) → (avps D).nested a ≡ true → tiles inner ≡ true → Found (payload a) inner (place + head_size (flags a)) k r
        → Here true (suc k) r
    at_inside k r n tiled f =
        let w = exact_sizes a exact in
        let h = head_size (flags a) in
        let l = payload_length a w.0 in
        let le : h + f.at + length new ≤ avp_length a = omega (arith, f.room, w.0.long, w.1.data_is) in
        let g = refilled new a exact (h + f.at) (omega arith) le in
        let room : h + f.at + length new ≤ length a = omega (arith, w.1, exact.size_is) in
        record {
          at = h + f.at;
          place_is = omega (arith, f.place_is);
          room = omega (arith, length-append a x);
          changed =
              rw (
                sets_front new a x (h + f.at) room,
                avp_before D (sets a (h + f.at) new) x (refilled_exact new a exact (h + f.at) (omega arith) le),
                same_nested a _ g,
                n,
                refilled_payload new a exact f.at (omega (arith, f.room)),
              )
              (inside g tiled f.changed);
        }

    first_found : Claim (payload a) → Claim x → (b : Bool) → (avps D).nested a ≡ b → (k : ℕ) (r : Record) (behind : List Record)
        → drop k (records D place depth (node true b a inner rest)) ≡ r ∷ behind → Asked r → Here b k r
    first_found in-it behind-it false n zero r behind e asked = at_first r (cc) asked n
    first_found in-it behind-it false n (suc k) r behind e asked =
        at_later false k (suc k) r n (λ u c. past c) (behind-it (place + length a) depth k r behind e asked)
    first_found in-it behind-it true n zero r behind e asked =
        absurd (false_true (sym (no_group_own place depth a (group_value D inner) r (cc) asked.no_group) ∙ n))
    first_found in-it behind-it true n (suc k) r behind e asked =
        let h = head_size (flags a) in
        elim (decide (tiles inner)) [
          | inl tiled ↦
              let parts = in_parts (records D (place + h) (depth + 1) inner) (records D (place + length a) depth rest) k r behind (rw tiled at e) in
              elim parts [
                | inl f ↦ at_inside k r n tiled (in-it (place + h) (depth + 1) k r f.behind f.is asked)
                | inr l ↦
                    let count : member_count inner ≡ record_count inner = rw tiled in
                    let next : k ≡ member_count inner + l.index = omega (arith, l.index_is, records_count D (place + h) (depth + 1) inner) in
                    at_later true l.index (suc k) r n
                    (λ u c. rw next (past_group c))
                    (behind-it (place + length a) depth l.index r behind l.is asked)
              ]
          | inr fails ↦
              let none : member_count inner ≡ 0 = rw fails in
              let next : k ≡ member_count inner + k = omega arith in
              at_later true k (suc k) r n (λ u c. rw next (past_group c))
              (behind-it (place + length a) depth k r behind (rw fails at e) asked)
        ]

  -- a run in which the record of index k stands
  pub run_found : (s : List ℕ) → Claim s
  run_found =
      by_run (avps D) (sound (avps D).nested) Claim
      (λ place depth k r behind e asked. absurd (none_there k r behind (rw tree_none at e)))
      (λ s pos h place depth k r behind e asked.
      elim (decide (complete s)) [
        | inl whole ↦
            let p = h whole in
            let a = item (avps D) s in
            let x = after (avps D) s in
            let exact = item_exact D s whole in
            let is : tree (avps D) s ≡ node true ((avps D).nested a) a (tree (avps D) (payload a)) (tree (avps D) x) =
            ap (tree (avps D)) (sym p.0.whole) ∙ avp_before D a x exact
            in
            let f = first_found a x exact place depth p.1 p.2 ((avps D).nested a) refl k r behind (rw is at e) asked in
            rw is (rw p.0.whole at f)
        | inr fails ↦ absurd (none_there k r behind (rw (tree_broken (avps D) (sound (avps D).nested) s pos fails) at e))
      ])
