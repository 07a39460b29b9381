-- `header_alone` by cases: which facts lead to which answer, in the order of the refusals. Each case is the tests that fail, in their
-- order, and then the one that holds.
use Prim.Native.Nat.{ℕ, ◌-◌, ◌≤◌, ◌<◌}
use mathlib.Core.Path.{◌≡◌, ap, ◌∙◌}
use mathlib.Core.Bool.{false, not}
use mathlib.Core.List.{List}
use native.Mathlib.Omega.{arith}
use lib.ListN.{length, get_or}
use lib.Dec.{eqb, ltb}
use borrow.Author.Tests.{lt-ltb, le-ltb, eq-eqb, ne_eqb}
use Rattle.octets.proofs.Numbers.{one_byte}
use Rattle.flags.specs.Flags.{flag, non_zero_reserved}
use Rattle.rfc6733.specs.Header as rfc
use Rattle.rfc6733.specs.Header.{header_size, message_length, header_reserved, header_of, header_errors, header_refusals}
use Rattle.rfc6733.specs.Decoder.{header_alone}
use Rattle.refusal.specs.declared.Refusal.TheVariants.{Incomplete, NotVersion, BadLength}
use Rattle.header.specs.declared.Header.{Header}
use Rattle.std.specs.Prelude.{Ok, Err}
use Rattle.header.specs.Parsed.{header_as, parsed_as, answer_of}
use Rattle.octets.proofs.Availability.{Missing}

-- the flags byte of a header that was read
flags_are : (s : List ℕ) (h : Header) → header_as h ≡ header_of s → h.flags ≡ get_or s 4 0
unfolding header_as header_of
flags_are s h e = ap (λ (x : rfc.Header). x.flags) e ∙ one_byte s 4

-- what decides a test
ruleset tests = (lt-ltb, le-ltb, eq-eqb, ne_eqb, one_byte)

module _ (s : List ℕ) where
  pub no_byte : (n : ℕ) → Missing 1 (length s) n → answer_of (Err (Incomplete n)) ≡ header_alone s
  unfolding header_alone header_refusals
  no_byte n m = let e : n ≡ 1 = omega (arith, m.fewer, m.missing) in simp (m.fewer, tests, e)

  pub other_version : 1 ≤ length s → (get_or s 0 0 ≡ 1 → ⊥) → answer_of (Err NotVersion) ≡ header_alone s
  unfolding header_alone header_refusals
  other_version some other = simp tests

  -- of this version
  module _ (one : get_or s 0 0 ≡ 1) where
    pub under_four : 1 ≤ length s → (n : ℕ) → Missing 4 (length s) n → answer_of (Err (Incomplete n)) ≡ header_alone s
    unfolding header_alone header_refusals
    under_four some n m = simp (m.fewer, tests, m.missing)

    -- with a length
    module _ (four : 4 ≤ length s) where
      some : ltb (length s) 1 ≡ false
      some = le-ltb (length s) 1 (omega arith)

      pub length_under_four : message_length s < 4 → answer_of (Err BadLength) ≡ header_alone s
      unfolding header_alone header_refusals
      length_under_four short = simp (some, tests)

      -- that counts the bytes up to it
      module _ (counts : 4 ≤ message_length s) where
        pub cut_off : (n : ℕ) → Missing (message_length s) (length s) n → answer_of (Err (Incomplete n)) ≡ header_alone s
        unfolding header_alone header_refusals
        cut_off n m = simp (some, m.fewer, tests, m.missing)

        -- and whose bytes are at hand
        module _ (there : message_length s ≤ length s) where
          pub length_under_header : message_length s < header_size → answer_of (Err BadLength) ≡ header_alone s
          unfolding header_alone header_refusals
          length_under_header short = simp (some, tests)

          pub whole : header_size ≤ message_length s → (h : Header) (flags : ℕ) → header_as h ≡ header_of s
              → flags ≡ flag (not (eqb (header_reserved h.flags) 0)) non_zero_reserved → answer_of (Ok (record { header = h; errors = flags })) ≡ header_alone s
          unfolding header_alone header_errors header_refusals
          whole enough h flags fields raised = simp (some, tests, fields, raised, flags_are s h fields)
