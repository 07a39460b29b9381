-- Parts of bytes are bytes. And where bytes stand in the bytes that places point into: what stands at a place has its parts at that
-- place and further on.
use Prim.Native.Nat.{ℕ, ◌+◌, ◌≤◌, ◌<◌}
use mathlib.Core.Path.{◌≡◌, refl, sym, ap, ◌∙◌}
use mathlib.Core.Bool.{Bool, true, false}
use mathlib.Core.List.{List, ◌++◌, append_assoc}
use native.Mathlib.Omega.{arith}
use lib.ListN.{length, get_or, take, drop, length-append, length-take, length-drop, take-append-drop, get_or-eq_default}
use lib.Seq.{get_or-drop, get_or-take, take_at, drop_at, drop-drop, drop-append-le}
use lib.Dec.{ltb}
use borrow.Author.Tests.{ltb-true, ltb-false}
use Rattle.octets.specs.Octets.{Bytes}
use Rattle.octets.specs.Run.{Format, item, after}

pub bytes_drop : (k : ℕ) (s : List ℕ) → Bytes s → Bytes (drop k s)
bytes_drop k s b i = rw (get_or-drop k s i 0) (b (k + i))

pub bytes_take : (n : ℕ) (s : List ℕ) → Bytes s → Bytes (take n s)
bytes_take n s b i = by (ltb i n) refl
  where
    by : (q : Bool) → ltb i n ≡ q → get_or (take n s) i 0 < 256
    by true e = rw (get_or-take n s i 0 (ltb-true i n e)) (b i)
    by false e = rw (get_or-eq_default (take n s) 0 {n = i} (omega (arith, length-take n s, ltb-false i n e))) (omega arith)

-- ---- parts of a run

module _ (F : Format) (s : List ℕ) where
  pub bytes_item : Bytes s → Bytes (item F s)
  unfolding item
  bytes_item = bytes_take (F.size s) s

  pub bytes_after : Bytes s → Bytes (after F s)
  unfolding after
  bytes_after = bytes_drop (F.size s) s

-- ---- at a place

pub record Holds (pool : List ℕ) (place : ℕ) (s : List ℕ) : Type 0 where
  pub beyond : List ℕ
  pub is : drop place pool ≡ s ++ beyond

module _ (pool : List ℕ) (place : ℕ) where
  pub holds_here : (n : ℕ) → Holds pool place (take n (drop place pool))
  holds_here n = record { beyond = drop n (drop place pool); is = sym (take-append-drop n (drop place pool)) }

  pub holds_front : (a x : List ℕ) → Holds pool place (a ++ x) → Holds pool place a
  holds_front a x h = record { beyond = x ++ h.beyond; is = h.is ∙ append_assoc a x h.beyond }

  pub holds_behind : (a x : List ℕ) → Holds pool place (a ++ x) → Holds pool (place + length a) x
  holds_behind a x h = record { beyond = h.beyond; is = rw (← drop-drop (length a) place pool, h.is, append_assoc, drop_at a _ (length a) refl) }

  -- n bytes of it, from its byte k on
  pub holds_part : (s : List ℕ) (k n : ℕ) → k ≤ length s → Holds pool place s → Holds pool (place + k) (take n (drop k s))
  holds_part s k n le h =
      record {
        beyond = drop n (drop k s) ++ h.beyond;
        is = rw (← drop-drop k place pool, h.is, drop-append-le, ← append_assoc, take-append-drop);
      }

  pub holds_fits : (s : List ℕ) → 0 < length s → Holds pool place s → place + length s ≤ length pool
  holds_fits s some h = omega (arith, length-drop place pool, ap length h.is, length-append s h.beyond)

  pub holds_data : (n : ℕ) (s : List ℕ) → length s ≡ n → Holds pool place s → take n (drop place pool) ≡ s
  holds_data n s e h = rw (h.is, take_at s h.beyond n e)

  pub bytes_held : (s : List ℕ) → Bytes pool → Holds pool place s → Bytes s
  bytes_held s b h = rw (holds_data (length s) s refl h) at (bytes_take (length s) (drop place pool) (bytes_drop place pool b))
