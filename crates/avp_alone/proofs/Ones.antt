-- What is known of one AVP that is complete: its own bytes are the run of one that the definition reads, and that run tiles, so the
-- answer is the run's.
use Prim.Native.Nat.{ℕ, ◌≤◌}
use mathlib.Core.Path.{◌≡◌, refl, sym, ap, ◌∙◌}
use mathlib.Core.Bool.{Bool, true, false}
use mathlib.Core.List.{List}
use native.Mathlib.Omega.{arith}
use lib.ListN.{length, take}
use lib.Seq.{length-take-le}
use Rattle.octets.specs.Run.{Tree, done, node, tree, tiles, item}
use Rattle.rfc6733.specs.Avp.{payload, avp_size, complete}
use Rattle.rfc6733.specs.Dictionary.{Dictionary}
use Rattle.rfc6733.specs.Records.{avps}
use Rattle.rfc6733.specs.Decoder.{allowed, run_records, run_counts, alone_records, alone_of, avp_alone}
use Rattle.rfc6733.proofs.Alone.{alone, exact_tree, item_exact}
use Rattle.rfc6733.proofs.Complete.{complete_whole}
use Rattle.rfc6733.proofs.Decoded.{alone_past}
use Rattle.record.specs.Record.{last_place}
use Rattle.avps.specs.Answers.{run_answer}
use Rattle.avps.proofs.Answered.{past_limit}
use Rattle.avp_alone.specs.Answers.{Complete}

module _ (D : Dictionary) (size : ℕ) (s : List ℕ) (w : Complete size s) where
  -- its own bytes
  own_is : take size s ≡ item (avps D) s
  unfolding item
  own_is = ap (λ (n : ℕ). take n s) w.size_is

  own_length : length (item (avps D) s) ≡ avp_size s
  unfolding item
  own_length = length-take-le (avp_size s) s (complete_whole s w.whole).room

  own_tiles : tiles (tree (avps D) (item (avps D) s)) ≡ true
  unfolding alone
  own_tiles =
      let a = item (avps D) s in
      ap tiles (exact_tree D a (item_exact D s w.whole)) ∙ one_tiles ((avps D).nested a) a (tree (avps D) (payload a))
    where
      one_tiles : (b : Bool) (a : List ℕ) (i : Tree) → tiles (node true b a i done) ≡ true
      one_tiles true a i = refl
      one_tiles false a i = refl

  pub own_records : run_records D 0 (take size s) ≡ alone_records D s
  unfolding alone_records
  own_records = ap (run_records D 0) own_is

  own_counts : run_counts D 0 (take size s) ≡ alone_of D s
  unfolding run_counts alone_of
  own_counts = rw (own_is, own_length)

  pub alone_is : (limit room : ℕ) → allowed limit ≡ true → size ≤ last_place → run_answer D limit room 0 (take size s) ≡ avp_alone D limit room s
  unfolding complete alone_records
  alone_is limit room ok short =
      sym (past_limit D limit room 0 (take size s) (omega (arith, ap length own_is, own_length, w.size_is)) ok)
      ∙ rw (own_counts, own_is, own_tiles) (alone_past D limit room s ok w.whole)
