-- A run's error flags are below 16 in both readings and both editions: each flag is, and joining keeps it so. And what is read of bytes is a number
-- of eight bytes at most, if their count is. For any dictionary this asks only that it is so of an Address.
use Prim.Native.Nat.{ℕ, ◌^◌, ◌≤◌, ◌<◌}
use mathlib.Core.Bool.{Bool, cond, not}
use mathlib.Core.Logic.{inl, inr}
use mathlib.Core.List.{List}
use native.Mathlib.Nat.{pow-le-pow_right, zero-lt-suc}
use native.Mathlib.Omega.{arith}
use lib.Dec.{eqb}
use lib.ListN.{length}
use Rattle.octets.specs.Octets.{be, Bytes}
use Rattle.octets.specs.Run.{Tree, done, broken, plain, group, tiles}
use Rattle.octets.proofs.Numbers.{be_small}
use Rattle.rfc3629.specs.Utf8.{valid_up_to}
use Rattle.rfc3629.proofs.Prefixes.{longest}
use Rattle.flags.specs.Flags.{data_value, data_length, flag}
use Rattle.rfc6733.specs.Avp.{flags, avp_reserved, payload, pads}
use Rattle.rfc6733.specs.Value.{fixed, data_as}
use Rattle.record.specs.Value.{Value, value, text}
use Rattle.record.specs.Kinds.{unhandled}
use Rattle.rfc6733.specs.Dictionary.{Dictionary, family_address, bare_address, rfc, sawp}
use Rattle.rfc6733.specs.CreditControl.{rfc4006, rfc8506, edition_of}
use Rattle.rfc6733.specs.Records.{avp_kind, value_of, own_errors, errors}
use Rattle.record.proofs.Chosen.{either}
use Rattle.rfc6733.proofs.CreditControl.{each_edition}
use Rattle.refusal.proofs.Tests.{decide}
use Rattle.flags.proofs.Joins.{join_small, flag_small}

-- a value that was read of s: its flags are below 16, and its number fits eight bytes, if s is bytes and as many as fit
pub record Small (s : List ℕ) (v : Value) : Type 0 where
  pub below : v.errors < 16
  pub fits : Bytes s → length s < 256 ^ 8 → v.number < 256 ^ 8

pub own_small : (a : List ℕ) → own_errors a < 16
unfolding own_errors
own_small a =
    join_small _ _ (flag_small (not (eqb (avp_reserved (flags a)) 0)) _ (omega arith)) (flag_small (not (eqb (pads a) 0)) _ (omega arith))

-- ---- each way to read

no_number : (s : List ℕ) (k : ℕ) → Small s (value k 0 0)
no_number s k = omega arith

wrong_length : (s : List ℕ) → Small s (value unhandled data_length 0)
wrong_length s = omega arith

broken_text : (s : List ℕ) → Small s (value unhandled data_value (valid_up_to s))
broken_text s = record { below = omega arith; fits = λ bytes few. omega (arith, (longest s).is_prefix) }

four_bytes : (s : List ℕ) (k i : ℕ) → Small s (value k 0 (be 4 s i))
four_bytes s k i = record { below = omega arith; fits = λ bytes few. let l = be_small 4 s i bytes in omega arith }

flagged : (s : List ℕ) (w k : ℕ) → w ≤ 8 → (b : Bool) → Small s (value k (flag b data_length) (be w s 0))
flagged s w k le b =
    let most = pow-le-pow_right {n = 256} (zero-lt-suc 255) le in
    record { below = flag_small b data_length (omega arith); fits = λ bytes few. let l = be_small w s 0 bytes in omega arith }

ruleset ways = (no_number, wrong_length, broken_text, four_bytes)

read_small : (as_address : List ℕ → Value) (k : ℕ) (s : List ℕ) → Small s (as_address s) → Small s (data_as as_address k s)
unfolding data_as fixed text
read_small as_address k s h = search (either (Small s), ways, flagged s 4 k (omega arith), flagged s 8 k (omega arith)) depth 9

pub bare_small : (s : List ℕ) → Small s (bare_address s)
unfolding bare_address
bare_small s = search (either (Small s), ways) depth 9

pub family_small : (s : List ℕ) → Small s (family_address s)
unfolding family_address
family_small s = search (either (Small s), ways) depth 9

module _ (D : Dictionary) (address_small : (s : List ℕ) → Small s (D.as_address s)) where
  pub value_small : (a : List ℕ) → Small (payload a) (value_of D a)
  unfolding value_of
  value_small a = read_small D.as_address (avp_kind D a) (payload a) (address_small (payload a))

  pub errors_small : (t : Tree) → errors D t < 16
  errors_small done = omega arith
  errors_small broken = omega arith
  errors_small (plain a rest) = join_small _ _ (join_small _ _ (own_small a) (value_small a).below) (errors_small rest)
  errors_small (group a inner rest) =
      let inside : cond (tiles inner) (errors D inner) data_value < 16 =
      elim (decide (tiles inner)) [ inl e ↦ rw e (errors_small inner) | inr e ↦ rw e (omega arith) ]
      in
      join_small _ _ (join_small _ _ (own_small a) inside) (errors_small rest)

pub sawp_errors_small : (t : Tree) → errors sawp t < 16
unfolding sawp
sawp_errors_small = errors_small sawp bare_small

pub rfc_errors_small : (t : Tree) → errors rfc t < 16
unfolding rfc
rfc_errors_small = errors_small rfc family_small

pub edition_errors_small : (n : ℕ) (t : Tree) → errors (edition_of n) t < 16
unfolding rfc4006 rfc8506
edition_errors_small =
    each_edition (λ D. (t : Tree) → errors D t < 16) (errors_small rfc4006 family_small) (errors_small rfc8506 family_small) rfc_errors_small
