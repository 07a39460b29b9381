-- Damage stays in its AVP, of a message that is accepted, for every dictionary. The data of a record whose AVP is not taken as Grouped are replaced by
-- as many other bytes: the header is the same, and the body's tree changes in that AVP alone, so no test refuses that did not refuse before, and the
-- records change as the tree's do.
use Prim.Native.Nat.{ℕ, ◌+◌, ◌-◌, ◌≤◌}
use mathlib.Core.Path.{◌≡◌, refl, sym, subst, ap, ap₂, ◌∙◌}
use mathlib.Core.Bool.{false}
use mathlib.Core.List.{List, []}
use native.Mathlib.Omega.{arith}
use lib.Dec.{eqb}
use lib.ListN.{length, drop, length-take, length-drop}
use lib.Seq.{sets, length-sets}
use Rattle.octets.specs.Run.{tree, tiles, tried, deepest}
use Rattle.octets.proofs.Replacing.{unpack_sets, part_sets}
use Rattle.refusal.specs.Answer.{accepted, passes}
use Rattle.refusal.proofs.Answers.{passed, accepts}
use Rattle.record.specs.Record.{Record}
use Rattle.record.specs.Kinds.{grouped}
use Rattle.record.specs.Parents.{top_level}
use Rattle.rfc6733.specs.Header.{Header, header_layout, header_size, message_length, header_of, header_refusals}
use Rattle.rfc6733.specs.Dictionary.{Dictionary}
use Rattle.rfc6733.specs.Records.{avps, records}
use Rattle.rfc6733.specs.Groups.{groups}
use Rattle.rfc6733.specs.Decoder.{Message, run_records, run_counts, message_body, message_records, message_refusals, message_of, decoded}
use Rattle.rfc6733.specs.Writer.{stated_data, head_of}
use Rattle.record.specs.Damage.{At, Damaged}
use Rattle.record.proofs.Standing.{at_drop, unparented}
use Rattle.record.proofs.Damage.{After, told_of}
use Rattle.record.proofs.EachRecord.{told_damaged}
use Rattle.rfc6733.specs.Damage.{taken_as_grouped, with_errors, Stays}
use Rattle.rfc6733.proofs.Accepted.{Headed, when_accepted}
use Rattle.rfc6733.proofs.Groups.{run_members, run_count}
use Rattle.rfc6733.proofs.Damage.{same_tiles, same_tried, same_deepest, same_count, changed_records}
use Rattle.rfc6733.proofs.DamagedRuns.{Asked, Found, run_found}

-- ---- a run

-- a run, and the run that has other data for the record r of index k
pub record DamagedRun (D : Dictionary) (place : ℕ) (s new : List ℕ) (k : ℕ) (r : Record) : Type 0 where
  pub at : ℕ
  pub place_is : r.place ≡ place + at
  pub room : at + length new ≤ length s
  pub same_tiles : tiles (tree (avps D) (sets s at new)) ≡ tiles (tree (avps D) s)
  pub same_tried : tried (tree (avps D) (sets s at new)) ≡ tried (tree (avps D) s)
  pub same_deepest : deepest (tree (avps D) (sets s at new)) ≡ deepest (tree (avps D) s)
  pub damaged : Damaged (run_records D place s) k (run_records D place (sets s at new))

-- once it is known where the data stand
found_damaged : (D : Dictionary) (place : ℕ) (s new : List ℕ) (k : ℕ) (r own : Record) → r.place ≡ own.place
    → Found D new s (tree (avps D) s) place k own → DamagedRun D place s new k r
found_damaged D place s new k r own place_is f =
    let c = f.changed in
    let s' = sets s f.at new in
    let top : After 1 top_level 0 [] = record { some = omega arith; first_is = refl; no_group = λ i le. refl } in
    let told = changed_records D c place 1 top_level 0 [] [] top tt in
    let count = run_count D place s' ∙ same_count c ∙ sym (run_count D place s) in
    record {
      at = f.at;
      place_is = place_is ∙ f.place_is;
      room = f.room;
      same_tiles = same_tiles c;
      same_tried = same_tried c;
      same_deepest = same_deepest c;
      damaged = told_damaged (told_of _ _ (run_members D place s) (run_members D place s') told) count;
    }

pub run_damaged : (D : Dictionary) (place : ℕ) (s new : List ℕ) (k : ℕ) (r : Record) → At (run_records D place s) k r
    → taken_as_grouped D r ≡ false → length new ≡ stated_data r → DamagedRun D place s new k r
unfolding stated_data head_of
run_damaged D place s new k r there no_group same_length =
    let t = tree (avps D) s in
    let is = ap (drop k) (sym (run_members D place s)) ∙ at_drop _ k r there in
    let u = unparented (groups top_level 0 t) (records D place 1 t) k r _ is in
    let code_is = ap (λ (x : Record). x.code) u.is in
    let vendor_is = ap (λ (x : Record). x.vendor) u.is in
    let asked : Asked D new u.own =
    record {
      no_group = ap₂ (λ (c v : ℕ). eqb (D.kind c v) grouped) (sym code_is) (sym vendor_is) ∙ no_group;
      same_length = same_length ∙ ap stated_data u.is;
    }
    in
    found_damaged D place s new k r u.own (ap (λ (x : Record). x.place) u.is)
    (run_found D new s place 1 k u.own u.behind u.there asked)

-- ---- a message

-- the header and the body of a message with other bytes in its body
record Beyond (s new : List ℕ) (at : ℕ) : Type 0 where
  header_is : header_of (sets s (header_size + at) new) ≡ header_of s
  refusals_are : header_refusals (sets s (header_size + at) new) ≡ header_refusals s
  body_is : message_body (sets s (header_size + at) new) ≡ sets (message_body s) at new

beyond : (s new : List ℕ) (at : ℕ) → at + length new ≤ length (message_body s) → Headed s → Beyond s new at
unfolding header_of header_refusals message_body
beyond s new at le headed =
    let n = message_length s - header_size in
    let fits : at + length new ≤ n = omega (arith, length-take n (drop header_size s)) in
    let room : header_size + at + length new ≤ length s = omega (arith, headed.twenty, headed.there, length-take n (drop header_size s), length-drop header_size s) in
    let fields = unpack_sets new header_layout.sizes s (header_size + at) 0 (omega arith) room in
    let h : header_of (sets s (header_size + at) new) ≡ header_of s = ap header_layout.made fields in
    record {
      header_is = h;
      refusals_are =
          rw (length-sets s (header_size + at) new, ap (λ (x : Header). x.version) h, ap (λ (x : Header). x.length) h);
      body_is =
          rw (ap (λ (x : Header). x.length) h) (part_sets new s header_size n at fits (omega (arith, headed.twenty, headed.there)));
    }

but_errors : (x y : Message) → x.header ≡ y.header → x.counts.records ≡ y.counts.records → x.counts.tried ≡ y.counts.tried
    → x.counts.length ≡ y.counts.length → x ≡ with_errors y x.counts.errors
but_errors x y header records tried length = rw (← header, ← records, ← tried, ← length)

-- where its body is damaged
message_damaged : (D : Dictionary) (limit room : ℕ) (s : List ℕ) (m : Message) → decoded D limit room s ≡ accepted m
    → (k : ℕ) (r : Record) (new : List ℕ) (d : DamagedRun D header_size (message_body s) new k r)
    → Stays D limit room s m k (sets s (header_size + d.at) new)
unfolding decoded message_refusals message_records message_of run_counts header_of
message_damaged D limit room s m e k r new d =
    let acc = when_accepted D limit room s m e in
    let b = beyond s new d.at d.room acc.header in
    let s' = sets s (header_size + d.at) new in
    let p = passed (message_refusals D limit room s) (message_of D s) m e in
    let refusals : message_refusals D limit room s' ≡ message_refusals D limit room s =
    rw (b.refusals_are, b.body_is, d.same_tiles, d.same_deepest, d.damaged.same_count)
    in
    let same =
    but_errors (message_of D s') m (b.header_is ∙ ap (λ (x : Message). x.header) p.1)
    (rw b.body_is d.damaged.same_count ∙ ap (λ (x : Message). x.counts.records) p.1)
    (rw b.body_is d.same_tried ∙ ap (λ (x : Message). x.counts.tried) p.1)
    (ap (λ (x : Header). x.length) b.header_is ∙ ap (λ (x : Message). x.counts.length) p.1)
    in
    record {
      errors = (message_of D s').counts.errors;
      is_accepted = accepts (message_refusals D limit room s') (message_of D s') (ap passes refusals ∙ p.0) ∙ ap accepted same;
      damaged = rw b.body_is d.damaged;
    }

-- In a message that is accepted take a record whose AVP the dictionary does not take as Grouped, and replace its data by
-- as many other bytes.
pub damage_stays : (D : Dictionary) (limit room : ℕ) (s : List ℕ) (m : Message) → decoded D limit room s ≡ accepted m
    → (k : ℕ) (r : Record) → At (message_records D s) k r → taken_as_grouped D r ≡ false
    → (new : List ℕ) → length new ≡ stated_data r
    → Stays D limit room s m k (sets s r.place new)
unfolding message_records
damage_stays D limit room s m e k r there no_group new same_length =
    let d = run_damaged D header_size (message_body s) new k r there no_group same_length in
    subst (λ (place : ℕ). Stays D limit room s m k (sets s place new)) (sym d.place_is)
    (message_damaged D limit room s m e k r new d)
