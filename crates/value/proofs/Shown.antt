-- What a value of the code shows. A number is read by one law over its width. A value that shows another kind than Address is none, so
-- nothing more is asked of it; an Address is asked for its family besides.
use Prim.Native.Nat.{ℕ, ◌<◌, ◌≤◌}
use mathlib.Core.Path.{◌≡◌, refl, sym, ap, ◌∙◌}
use mathlib.Core.Bool.{Bool, true, false, cond}
use mathlib.Core.List.{List}
use lib.ListN.{length}
use lib.Dec.{ltb, eqb}
use borrow.Author.Tests.{le-ltb, ltb-true, ltb-false, eqb-false}
use Rattle.octets.specs.Octets.{be}
use Rattle.address.specs.declared.IpAddr.{IpAddr}
use Rattle.std.specs.Prelude.{⊤, Result, Ok, Err}
use Rattle.address.specs.declared.NoAddress.{NoAddress}
use Rattle.address.specs.declared.NoAddress.TheVariants.{BadLength, OtherFamily}
use Rattle.address.specs.Addresses.{found_as, Finds}
use Rattle.utf8.specs.Checked.{checked}
use Rattle.utf8.specs.declared.Utf8Error.{Utf8Error}
use Rattle.utf8.proofs.Answers.{Says, says}
use Rattle.flags.specs.Flags.{data_value, data_length, flag}
use Rattle.record.specs.Value as values
use Rattle.rfc6733.specs.Value.{fixed}
use Rattle.record.specs.Value.{value, text}
use Rattle.record.specs.Kinds.{address, grouped, unhandled}
use Rattle.value.specs.declared.Value.{Value}
use Rattle.value.specs.declared.Value.TheVariants.{Unhandled, Grouped, Address}
use Rattle.value.specs.declared.Read.{Read}
use Rattle.value.specs.Values.{kind_of, number_of, read_as, text_of, text_errors, address_or_none, address_errors, Shows}

-- r was made of a value and its error flags
abbrev pub Made : Value → ℕ → Read → Type 0
Made v e r = (r.value ≡ v) × (r.errors ≡ e)

pub read_as_lem : (r : Read) (v : Value) (e : ℕ) → Made v e r → read_as r ≡ value (kind_of v) e (number_of v)
unfolding read_as
read_as_lem r v e made = rw (made.0, made.1)

-- a number whose bytes are there, and perhaps more
pub enough : (w : ℕ) (s : List ℕ) (v : Value) (k n e : ℕ) → w ≤ length s → (kind_of v ≡ k) × (number_of v ≡ n) → n ≡ be w s 0
    → e ≡ flag (ltb w (length s)) data_length → read_as (record { value = v; errors = e }) ≡ fixed w k s
unfolding fixed read_as
enough w s v k n e some is read raised = rw (le-ltb _ _ some, is.0, is.1, read, raised)

-- ---- what a value shows of the data

module _ (s : List ℕ) (r : Read) where
  -- another kind is no Address
  pub no_address : (v : values.Value) → read_as r ≡ v → eqb v.kind address ≡ false → Shows v s r
  unfolding read_as
  no_address v e other = record { value = e; address = λ a is. absurd (eqb-false v.kind address other (cc)) }

  pub is_unhandled : (e : ℕ) → Made (Unhandled 0) e r → Shows (value unhandled e 0) s r
  is_unhandled e made = no_address (value unhandled e 0) (read_as_lem r (Unhandled 0) e made) refl

  -- a number of w bytes, of which `of` makes a value of the kind k
  pub a_number : (w k : ℕ) (of : ℕ → Value) → ((n : ℕ) → (kind_of (of n) ≡ k) × (number_of (of n) ≡ n)) → eqb k address ≡ false
      → (length s < w → Made (Unhandled 0) data_length r)
      → (w ≤ length s → (n : ℕ) × (n ≡ be w s 0) × (r.value ≡ of n) × (r.errors ≡ flag (ltb w (length s)) data_length))
      → Shows (fixed w k s) s r
  unfolding fixed
  a_number w k of is other few enough = by (ltb (length s) w) refl
    where
      errors : ℕ
      errors = flag (ltb w (length s)) data_length

      by : (b : Bool) → ltb (length s) w ≡ b → Shows (cond b (value unhandled data_length 0) (value k errors (be w s 0))) s r
      by true e = is_unhandled data_length (few (ltb-true (length s) w e))
      by false e =
          let h = enough (ltb-false (length s) w e) in
          let shown = rw ((is h.0).0, (is h.0).1, h.1) at (read_as_lem r (of h.0) errors (h.2, h.3)) in
          no_address (value k errors (be w s 0)) shown other

  pub a_group : (ok : Bool) → Made (cond ok Grouped (Unhandled 0)) (cond ok 0 data_value) r
      → Shows (cond ok (value grouped 0 0) (value unhandled data_value 0)) s r
  a_group true made = no_address (value grouped 0 0) (read_as_lem r Grouped 0 made) refl
  a_group false made = is_unhandled data_value made

  -- a value without a number, where its data are text
  pub a_text : (v : Value) → number_of v ≡ 0 → eqb (kind_of v) address ≡ false
      → (c : Result ⊤ Utf8Error) → c ≡ checked s → Made (text_of c v) (text_errors c) r → Shows (text (kind_of v) s) s r
  unfolding text
  a_text v none other c e made = by c (says s c e) made
    where
      by : (c : Result ⊤ Utf8Error) → Says s c → Made (text_of c v) (text_errors c) r → Shows (text (kind_of v) s) s r
      by (Ok all) t made = rw t (no_address (value (kind_of v) 0 0) (read_as_lem r v 0 made ∙ ap (value (kind_of v) 0) none) other)
      by (Err why) t made =
          let n = why.valid_up_to in
          rw (t.ill_formed, t.up_to) (no_address (value unhandled data_value n) (read_as_lem r (Unhandled n) data_value made) refl)

  -- an Address is the one that was found
  pub an_address : (v : values.Value) (f : Result IpAddr NoAddress) → Finds v s f → Made (address_or_none f) (address_errors f) r
      → Shows v s r
  an_address v f finds made =
      record { value = shown f made ∙ finds.value; address = λ a is. finds.address a (same f a (sym made.0 ∙ is)) }
    where
      shown : (f : Result IpAddr NoAddress) → Made (address_or_none f) (address_errors f) r → read_as r ≡ found_as f
      shown (Ok a) made = read_as_lem r (Address a) 0 made
      shown (Err BadLength) made = read_as_lem r (Unhandled 0) data_length made
      shown (Err OtherFamily) made = read_as_lem r (Unhandled 0) 0 made

      same : (f : Result IpAddr NoAddress) (a : IpAddr) → address_or_none f ≡ Address a → f ≡ Ok a
      same (Ok b) a e = cc
      same (Err why) a e = cc
