-- `first_of` and `parsed_of` by cases: which facts lead to which answer, in the order of the refusals. Each refusal is the tests that
-- fail, in their order, and then the one that holds. A complete AVP passes them all.
use Prim.Native.Nat.{ℕ, ◌-◌, ◌≤◌, ◌<◌}
use mathlib.Core.Path.{◌≡◌, refl, sym, ◌∙◌}
use mathlib.Core.Bool.{Bool, true, false}
use mathlib.Core.List.{List}
use native.Mathlib.Omega.{arith}
use lib.ListN.{length}
use lib.Dec.{ltb}
use borrow.Author.Tests.{lt-ltb, le-ltb, ltb-true, ltb-false}
use Rattle.octets.proofs.Runs.{false_true}
use Rattle.rfc6733.specs.Avp.{flags, avp_length, head_size, avp_size, avp_refusals, complete}
use Rattle.refusal.proofs.Answers.{accepts}
use Rattle.rfc6733.proofs.Complete as rfc
use Rattle.rfc6733.proofs.Complete.{complete_whole, whole_complete}
use Rattle.refusal.specs.declared.Refusal.TheVariants.{Incomplete, BadLength}
use Rattle.std.specs.Prelude.{Some, None, Ok}
use Rattle.refusal.specs.Answer.{refused, answer_of}
use Rattle.avp.specs.declared.AVP.{AVP}
use Rattle.front.specs.Front.{avp_of, first_of, parsed_of}

module _ (s : List ℕ) where
  pub not_complete : (rfc.Whole s → ⊥) → complete s ≡ false
  not_complete refuted = by (complete s) refl
    where
      by : (b : Bool) → complete s ≡ b → b ≡ false
      by true e = absurd (refuted (complete_whole s e))
      by false e = refl

  -- one that is not complete, though its header is there and its length long enough, lacks padding
  pub no_room : complete s ≡ false → 8 ≤ length s → head_size (flags s) ≤ avp_length s → length s < avp_size s
  no_room e eight long = by (ltb (length s) (avp_size s)) refl
    where
      by : (b : Bool) → ltb (length s) (avp_size s) ≡ b → length s < avp_size s
      by true t = ltb-true _ _ t
      by false t =
          absurd (false_true (sym e ∙ whole_complete s (record { eight = eight; long = long; room = ltb-false _ _ t })))

  pub broken : complete s ≡ false → None ≡ first_of s
  unfolding first_of
  broken e = rw e

  pub whole : rfc.Whole s → (a : AVP) → a ≡ avp_of s → Some a ≡ first_of s
  unfolding first_of
  whole w a e = rw (whole_complete s w, e)

  pub accepted_whole : complete s ≡ true → (a : AVP) → a ≡ avp_of s → answer_of (Ok a) ≡ parsed_of s
  unfolding parsed_of complete
  accepted_whole t a e = rw e (sym (accepts (avp_refusals s) (avp_of s) t))

  pub under_four : length s < 4 → refused (Incomplete (4 - length s)) ≡ parsed_of s
  unfolding parsed_of avp_refusals
  under_four few = simp (lt-ltb _ _ few)

  pub at_four : length s ≡ 4 → refused (Incomplete 1) ≡ parsed_of s
  unfolding parsed_of avp_refusals
  at_four e =
      let four : 4 ≤ length s = omega arith in
      let few : length s < 5 = omega arith in
      simp (le-ltb _ _ four, lt-ltb _ _ few)

  pub under_eight : 5 ≤ length s → length s < 8 → refused (Incomplete (8 - length s)) ≡ parsed_of s
  unfolding parsed_of avp_refusals
  under_eight five few = let four : 4 ≤ length s = omega arith in simp (le-ltb _ _ four, le-ltb _ _ five, lt-ltb _ _ few)

  -- with the first 8 bytes
  module _ (eight : 8 ≤ length s) where
    four : 4 ≤ length s
    four = omega arith

    five : 5 ≤ length s
    five = omega arith

    pub length_under_eight : avp_length s < 8 → refused BadLength ≡ parsed_of s
    unfolding parsed_of avp_refusals
    length_under_eight short = simp (le-ltb _ _ four, le-ltb _ _ five, le-ltb _ _ eight, lt-ltb _ _ short)

    -- and a length that counts them
    module _ (counts : 8 ≤ avp_length s) where
      pub cut_off : length s < avp_length s → (n : ℕ) → n ≡ avp_length s - length s → refused (Incomplete n) ≡ parsed_of s
      unfolding parsed_of avp_refusals
      cut_off few n e = simp (le-ltb _ _ four, le-ltb _ _ five, le-ltb _ _ eight, le-ltb _ _ counts, lt-ltb _ _ few, e)

      -- and whose bytes are at hand
      module _ (there : avp_length s ≤ length s) where
        pub length_under_header : avp_length s < head_size (flags s) → refused BadLength ≡ parsed_of s
        unfolding parsed_of avp_refusals
        length_under_header short =
            simp
            (le-ltb _ _ four, le-ltb _ _ five, le-ltb _ _ eight, le-ltb _ _ counts, le-ltb _ _ there, lt-ltb _ _ short)

        pub padding_absent : head_size (flags s) ≤ avp_length s → length s < avp_size s → (n : ℕ) → n ≡ avp_size s - length s
            → refused (Incomplete n) ≡ parsed_of s
        unfolding parsed_of avp_refusals
        padding_absent long few n e =
            simp (
              le-ltb _ _ four,
              le-ltb _ _ five,
              le-ltb _ _ eight,
              le-ltb _ _ counts,
              le-ltb _ _ there,
              le-ltb _ _ long,
              lt-ltb _ _ few,
              e,
            )
