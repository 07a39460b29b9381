-- `decoded` and `avp_alone` by cases: which facts lead to which answer, in the order of the refusals. Both start with the limit and
-- what stands at the front; past them the answer is the run's own.
use Prim.Native.Nat.{ℕ, ◌≤◌, ◌<◌}
use mathlib.Core.Path.{◌≡◌, sym, ◌∙◌}
use mathlib.Core.Bool.{true, false}
use mathlib.Core.List.{List, ◌++◌}
use lib.ListN.{length}
use lib.Dec.{leb}
use borrow.Author.Tests.{lt-ltb, le-ltb, leb-true}
use Rattle.octets.specs.Run.{Tree, tree, item, deepest}
use Rattle.refusal.specs.Answer.{Refusal, accepted, refused, Test, answer, passes}
use Rattle.refusal.specs.declared.Refusal.TheVariants.{TooDeep, NoRecords, BadDepth}
use Rattle.rfc6733.specs.Header.{header_size, header_refusals}
use Rattle.rfc6733.specs.Avp.{avp_refusals, most_depth}
use Rattle.rfc6733.specs.Dictionary.{Dictionary}
use Rattle.record.specs.Record.{Record}
use Rattle.rfc6733.specs.Records.{avps, record_count}
use Rattle.rfc6733.specs.Decoder.{allowed, limit_refusals, fit_refusals, run_refusals, header_alone, message_body, message_refusals, message_of, decoded, alone_records, alone_refusals, alone_of, avp_alone}
use Rattle.refusal.proofs.Answers.{and-true, answer_past, answer_first}

-- ---- the limit

-- the levels of a limit that is allowed
pub allowed_most : (limit : ℕ) → allowed limit ≡ true → (1 ≤ limit) × (limit ≤ most_depth)
unfolding allowed
allowed_most limit e = let both = and-true (leb 1 limit) (leb limit most_depth) e in (leb-true 1 limit both.0, leb-true limit most_depth both.1)

module _ {A : Type 0} (limit : ℕ) (rs : List Test) (x : A) where
  pub limit_bad : allowed limit ≡ false → refused BadDepth ≡ answer (limit_refusals limit ++ rs) x
  limit_bad e = rw e

  pub limit_good : allowed limit ≡ true → answer rs x ≡ answer (limit_refusals limit ++ rs) x
  limit_good e = rw e

-- ---- a run that is refused, or not

module _ {A : Type 0} (limit room : ℕ) (t : Tree) (rs : List Record) (x : A) where
  pub deeper : limit < deepest t → refused TooDeep ≡ answer (fit_refusals limit room t rs) x
  deeper h = simp (lt-ltb limit (deepest t) h)

  module _ (shallow : deepest t ≤ limit) (count : length rs ≡ record_count t) where
    pub more_records : room < record_count t → refused (NoRecords (record_count t)) ≡ answer (fit_refusals limit room t rs) x
    more_records h = simp (le-ltb limit (deepest t) shallow, count, lt-ltb room (record_count t) h)

    pub fits : record_count t ≤ room → accepted x ≡ answer (fit_refusals limit room t rs) x
    fits h = simp (le-ltb limit (deepest t) shallow, count, le-ltb room (record_count t) h)

-- ---- a message

module _ (D : Dictionary) (limit room : ℕ) (s : List ℕ) where
  abbrev pub rest : List Test
  rest = run_refusals D limit room header_size (message_body s)

  pub message_limit_bad : allowed limit ≡ false → refused BadDepth ≡ decoded D limit room s
  unfolding decoded message_refusals
  message_limit_bad e = limit_bad limit (header_refusals s ++ rest) (message_of D s) e

  module _ (limit_is : allowed limit ≡ true) where
    -- the header's refusal is the message's
    pub header_refused : (why : Refusal) → refused why ≡ header_alone s → refused why ≡ decoded D limit room s
    unfolding decoded message_refusals header_alone
    header_refused why e =
        sym (answer_first (header_refusals s) rest _ (message_of D s) why (sym e))
        ∙ limit_good limit (header_refusals s ++ rest) (message_of D s) limit_is

    module _ (header : passes (header_refusals s) ≡ true) where
      -- past the header a message's answer is its body's
      pub message_past : answer rest (message_of D s) ≡ decoded D limit room s
      unfolding decoded message_refusals
      message_past =
          sym (answer_past (header_refusals s) rest (message_of D s) header)
          ∙ limit_good limit (header_refusals s ++ rest) (message_of D s) limit_is

-- ---- one AVP alone

module _ (D : Dictionary) (limit room : ℕ) (s : List ℕ) where
  abbrev alone_rest : List Test
  alone_rest = fit_refusals limit room (tree (avps D) (item (avps D) s)) (alone_records D s)

  pub alone_limit_bad : allowed limit ≡ false → refused BadDepth ≡ avp_alone D limit room s
  unfolding avp_alone alone_refusals
  alone_limit_bad e = limit_bad limit (avp_refusals s ++ alone_rest) (alone_of D s) e

  module _ (limit_is : allowed limit ≡ true) where
    -- the refusal of what stands at the front
    pub front_refused : {A : Type 0} (x : A) (why : Refusal) → answer (avp_refusals s) x ≡ refused why → refused why ≡ avp_alone D limit room s
    unfolding avp_alone alone_refusals
    front_refused x why e =
        sym (answer_first (avp_refusals s) alone_rest x (alone_of D s) why e)
        ∙ limit_good limit (avp_refusals s ++ alone_rest) (alone_of D s) limit_is

    module _ (front : passes (avp_refusals s) ≡ true) where
      -- past what stands at the front the answer is that of the run of one
      pub alone_past : answer alone_rest (alone_of D s) ≡ avp_alone D limit room s
      unfolding avp_alone alone_refusals
      alone_past =
          sym (answer_past (avp_refusals s) alone_rest (alone_of D s) front)
          ∙ limit_good limit (avp_refusals s ++ alone_rest) (alone_of D s) limit_is
