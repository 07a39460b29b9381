-- A message that holds the AVPs of two, for every dictionary. Where both tile, it tiles; its records and counts are
-- those of the two, merged; and the depth limit and the room for records decide its answer.
use Prim.Native.Nat.{ℕ, ◌+◌, ◌-◌, ◌≤◌, ◌<◌, max}
use mathlib.Core.Path.{◌≡◌, refl, sym, ap, ap₂, ◌∙◌}
use mathlib.Core.Bool.{true, false}
use mathlib.Core.Logic.{◌⊎◌, inl, inr}
use mathlib.Core.List.{List, ◌++◌, append_assoc, map}
use native.Mathlib.Omega.{arith}
use lib.ListN.{length, drop, length-append, length-take, length-drop}
use lib.Dec.{ltb}
use borrow.Author.Tests.{ltb-true, lt-ltb, le-ltb}
use Rattle.octets.specs.Run.{tree, tiles, deepest}
use Rattle.refusal.specs.Answer.{Refusal, Test, accepted, refused, answer, passes}
use Rattle.refusal.specs.declared.Refusal.TheVariants.{TooDeep, NoRecords}
use Rattle.refusal.proofs.Answers.{and-true, passed, passes_append, answer_past, answer_later, among, not_among}
use Rattle.refusal.proofs.Tests.{decide, tests}
use Rattle.flags.specs.Flags.{join}
use Rattle.record.specs.Counts.{Counts}
use Rattle.record.specs.Refusals.{tile_refusals, room_refusals}
use Rattle.rfc6733.specs.Joining.{Fragment, shifted, HoldsBoth, avp_errors}
use Rattle.rfc6733.specs.Header.{header_size, message_length, header_errors, header_refusals}
use Rattle.rfc6733.specs.Dictionary.{Dictionary}
use Rattle.rfc6733.specs.Records.{avps}
use Rattle.rfc6733.specs.Decoder.{Message, allowed, limit_refusals, fit_refusals, run_counts, message_body, message_records, message_refusals, message_of, decoded}
use Rattle.rfc6733.proofs.Accepted.{headed}
use Rattle.rfc6733.proofs.Tiling.{tiles_any}
use Rattle.rfc6733.proofs.Joining.{Joins, joining}

-- ---- one message

-- s is refused neither for its header nor because it doesn't tile
pub record Tiled (D : Dictionary) (limit : ℕ) (s : List ℕ) : Type 0 where
  pub allows : allowed limit ≡ true
  pub header_passes : passes (header_refusals s) ≡ true
  pub tiled : tiles (tree (avps D) (message_body s)) ≡ true

module _ (D : Dictionary) (limit room : ℕ) (s : List ℕ) where
  -- the refusals up to there, and those behind them
  abbrev before : List Test
  before = limit_refusals limit ++ (header_refusals s ++ tile_refusals (tree (avps D) (message_body s)))

  abbrev behind : List Test
  behind = fit_refusals limit room (tree (avps D) (message_body s)) (message_records D s)

  refusals_are : message_refusals D limit room s ≡ before ++ behind
  unfolding message_refusals message_records
  refusals_are = simp append_assoc

  all_passed : passes before ≡ true → Tiled D limit s
  all_passed e =
      let h = simp (passes_append, tests) at e in
      record { allows = h.0; header_passes = h.1.0; tiled = h.1.1.0 }

  pub when_accepted : (m : Message) → decoded D limit room s ≡ accepted m → Tiled D limit s
  unfolding decoded
  when_accepted m e =
      let all = (passed (before ++ behind) (message_of D s) m (rw refusals_are at e)).0 in
      all_passed (and-true (passes before) (passes behind) (rw (passes_append before behind) at all)).0

  -- where the depth is what refuses, the message is deeper than the limit
  is_deeper : answer behind (message_of D s) ≡ refused TooDeep → limit < deepest (tree (avps D) (message_body s))
  is_deeper given =
      elim (decide (ltb limit (deepest (tree (avps D) (message_body s))))) [
        | inl e ↦ ltb-true _ _ e
        | inr e ↦
            absurd (not_among (room_refusals room (message_records D s)) (message_of D s) TooDeep refl (rw e at given))
      ]

  -- a refusal that none of the first gives
  refused_behind : (why : Refusal) → among why before ≡ false → decoded D limit room s ≡ refused why
      → Tiled D limit s × (answer behind (message_of D s) ≡ refused why)
  unfolding decoded
  refused_behind why none e =
      let h = answer_later before behind (message_of D s) why none (rw refusals_are at e) in
      (all_passed h.0, h.1)

  pub when_no_room : (n : ℕ) → decoded D limit room s ≡ refused (NoRecords n) → Tiled D limit s
  unfolding header_refusals
  when_no_room n e = (refused_behind (NoRecords n) refl e).0

  pub when_too_deep : decoded D limit room s ≡ refused TooDeep
      → Tiled D limit s × (limit < deepest (tree (avps D) (message_body s)))
  unfolding header_refusals
  when_too_deep e =
      let h = refused_behind TooDeep refl e in
      (h.0, is_deeper h.1)

  -- then the depth and the records decide
  pub decoded_tiled : Tiled D limit s → decoded D limit room s ≡ answer behind (message_of D s)
  unfolding decoded
  decoded_tiled t =
      let all : passes before ≡ true = simp (passes_append, tests) (search (t.allows, t.header_passes, t.tiled)) in
      rw refusals_are (answer_past before behind (message_of D s) all)

-- ---- two messages, and one that holds the AVPs of both

body_length : (s : List ℕ) → passes (header_refusals s) ≡ true → length (message_body s) ≡ message_length s - header_size
unfolding message_body
body_length s e =
    length-take (message_length s - header_size) (drop header_size s)
    ∙ omega (arith, length-drop header_size s, (headed s e).there)

-- what an acceptance of s returns, by what those of the two return
pub record MergedMessage (D : Dictionary) (first second s : List ℕ) : Type 0 where
  pub records_are : message_records D s
      ≡ message_records D first
      ++ map (shifted (message_length first - header_size) (length (message_records D first))) (message_records D second)
  pub records_counted : length (message_records D s) ≡ length (message_records D first) + length (message_records D second)
  pub tried_is : (message_of D s).counts.tried ≡ (message_of D first).counts.tried + (message_of D second).counts.tried
  pub length_is : message_length s - header_size ≡ (message_length first - header_size) + (message_length second - header_size)
  pub errors_are : (message_of D s).counts.errors ≡ join (header_errors s) (join (avp_errors D first) (avp_errors D second))

module _ (D : Dictionary) (limit : ℕ) (first second s : List ℕ) (a : Tiled D limit first) (b : Tiled D limit second)
    (both : HoldsBoth first second s) where
  abbrev x : List ℕ
  x = message_body first

  abbrev y : List ℕ
  y = message_body second

  joins : Joins D header_size x y
  joins = joining D header_size x y (sym (tiles_any D x) ∙ a.tiled) (sym (tiles_any D y) ∙ b.tiled)

  pub both_tile : Tiled D limit s
  both_tile =
      record {
        allows = a.allows;
        header_passes = both.header_passes;
        tiled = rw both.body_is (tiles_any D (x ++ y) ∙ joins.tiles_is);
      }

  deeper : deepest (tree (avps D) (message_body s)) ≡ max (deepest (tree (avps D) x)) (deepest (tree (avps D) y))
  deeper = rw both.body_is joins.deepest_is

  pub messages_merged : MergedMessage D first second s
  unfolding message_records message_of run_counts avp_errors
  messages_merged =
      let whole = joins.fragment_is in
      let counts = ap (λ (q : Fragment). q.counts) whole in
      record {
        records_are =
            rw (both.body_is, ← body_length first a.header_passes) (ap (λ (q : Fragment). q.records) whole);
        records_counted = rw both.body_is (ap (λ (q : Counts). q.records) counts);
        tried_is = rw both.body_is (ap (λ (q : Counts). q.tried) counts);
        length_is =
            sym (body_length s both.header_passes)
            ∙ ap length both.body_is
            ∙ length-append x y
            ∙ ap₂ ◌+◌ (body_length first a.header_passes) (body_length second b.header_passes);
        errors_are = ap (join (header_errors s)) (rw both.body_is (ap (λ (q : Counts). q.errors) counts));
      }

  -- ---- its answer

  module _ (room : ℕ) where
    abbrev count : ℕ
    count = length (message_records D first) + length (message_records D second)

    pub is_too_deep : (limit < deepest (tree (avps D) x)) ⊎ (limit < deepest (tree (avps D) y))
        → decoded D limit room s ≡ refused TooDeep
    is_too_deep deep =
        let past : limit < deepest (tree (avps D) (message_body s)) =
        elim deep [ inl h ↦ omega (arith, deeper) | inr h ↦ omega (arith, deeper) ] in
        decoded_tiled D limit room s both_tile ∙ rw (lt-ltb limit _ past)

    module _ (shallow : deepest (tree (avps D) x) ≤ limit) (shallow' : deepest (tree (avps D) y) ≤ limit) where
      not_too_deep : decoded D limit room s ≡ answer (room_refusals room (message_records D s)) (message_of D s)
      not_too_deep =
          decoded_tiled D limit room s both_tile
          ∙ rw (le-ltb limit (deepest (tree (avps D) (message_body s))) (omega (arith, deeper)))

      pub has_no_room : room < count → decoded D limit room s ≡ refused (NoRecords count)
      has_no_room few = not_too_deep ∙ rw (messages_merged.records_counted, lt-ltb room count few)

      pub is_accepted : count ≤ room → decoded D limit room s ≡ accepted (message_of D s)
      is_accepted fits = not_too_deep ∙ rw (messages_merged.records_counted, le-ltb room count fits)
