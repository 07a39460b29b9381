-- Demand 3. For every accepted message, in any dictionary and so in each reading and edition, six times the headers tried is at most the
-- length less 20 (`Tried`); and messages of 20 + 12k bytes reach that for every k whose length fits 24 bits: k failing groups of 12
-- bytes try two headers each and have a record each, in every dictionary that takes Failed-AVP as Grouped. The tree of such a run is
-- a chain of k groups, so all counts are inductions over k.
use Prim.Native.Nat.{ℕ, ◌+◌, ◌-◌, ◌*◌, ◌≤◌, zero, suc}
use mathlib.Core.Path.{◌≡◌, refl, ap, ◌∙◌}
use mathlib.Core.List.{List, ◌++◌}
use native.Mathlib.Omega.{arith}
use lib.ListN.{length, drop, length-take, length-append}
use Rattle.refusal.specs.Answer.{accepted}
use Rattle.rfc6733.specs.Header.{message_length}
use Rattle.rfc6733.specs.Avp.{most_depth, head_size, vendor, data_size, padding, avp_size, payload, avp_refusals, complete}
use Rattle.rfc6733.specs.Dictionary.{Dictionary, sawp, rfc}
use Rattle.rfc6733.specs.CreditControl.{rfc4006, rfc8506, edition_of}
use Rattle.rfc6733.specs.Decoder.{Message, run_counts, message_body, message_of, decoded, allowed, run_records, message_refusals}
use Rattle.rfc6733.specs.Writer.{most24}
use Rattle.rfc6733.proofs.Accepted.{when_accepted}
use Rattle.rfc6733.proofs.CreditControl.{each_edition}
use Rattle.rfc6733.proofs.Tried.{tried_bound}
use mathlib.Core.Bool.{true}
use borrow.Author.Tests.{eq-eqb}
use Rattle.octets.specs.Octets.{be}
use Rattle.octets.specs.Run.{item, after, Tree, done, broken, group, tree_in, tree, tiles, tried, deepest}
use Rattle.octets.proofs.Runs.{tree_group}
use Rattle.flags.specs.Flags.{bit}
use Rattle.record.specs.Kinds.{grouped}
use Rattle.record.proofs.Parents.{parented_count}
use Rattle.rfc6733.specs.Records.{avp_kind, avps, records}
use Rattle.rfc6733.specs.Marked.{failing}
use Rattle.rfc6733.specs.Extremal.{failing_groups, extremal}
use Rattle.refusal.proofs.Answers.{accepts, passes_append}
use Rattle.rfc6733.proofs.Complete.{whole_complete}
use Rattle.rfc6733.proofs.Items.{sound}
use Rattle.refusal.proofs.Tests.{tests}
use Rattle.rfc6733.proofs.Messages.{message_read}

-- ---- a run of failing groups

-- its tree
abbrev chain : ℕ → Tree
chain zero = done
chain (suc k) = group failing broken (chain k)

module _ (D : Dictionary) (is_grouped : D.kind 279 0 ≡ grouped) where
  group_first : (t : List ℕ) → complete (failing ++ t) ≡ true
  unfolding be head_size bit data_size padding avp_size
  group_first t = whole_complete (failing ++ t) (omega arith)

  chained : (k : ℕ) → tree (avps D) (failing_groups k) ≡ chain k
  unfolding be item after head_size bit vendor data_size padding avp_size payload avp_kind tree tree_in complete avp_refusals
  chained zero = refl
  chained (suc k) =
      tree_group (avps D) (sound (avps D).nested) (failing ++ failing_groups k) (group_first (failing_groups k)) (eq-eqb (D.kind 279 0) grouped is_grouped)
      ∙ ap (group failing broken) (chained k)

-- ---- what the chain counts

chain_tiles : (k : ℕ) → tiles (chain k) ≡ true
chain_tiles zero = refl
chain_tiles (suc k) = chain_tiles k

chain_tried : (k : ℕ) → tried (chain k) ≡ 2 * k
chain_tried zero = refl
chain_tried (suc k) = omega (arith, chain_tried k)

chain_deepest : (k : ℕ) → deepest (chain k) ≤ 2
chain_deepest zero = omega arith
chain_deepest (suc k) = omega (arith, chain_deepest k)

chain_records : (D : Dictionary) (place depth k : ℕ) → length (records D place depth (chain k)) ≡ k
chain_records D place depth zero = refl
chain_records D place depth (suc k) = ap suc (chain_records D (place + length failing) depth k)

groups_length : (k : ℕ) → length (failing_groups k) ≡ 12 * k
groups_length zero = refl
groups_length (suc k) = length-append failing (failing_groups k) ∙ omega (arith, groups_length k)

-- ---- the message of k groups

pub record Reaches (D : Dictionary) (limit room k : ℕ) : Type 0 where
  pub bytes : length (extremal k) ≡ 20 + 12 * k
  pub is_accepted : decoded D limit room (extremal k) ≡ accepted (message_of D (extremal k))
  pub tried_is : (message_of D (extremal k)).counts.tried ≡ 2 * k
  pub records_is : (message_of D (extremal k)).counts.records ≡ k
  pub length_is : (message_of D (extremal k)).counts.length ≡ 20 + 12 * k

pub reached : (D : Dictionary) → D.kind 279 0 ≡ grouped → (limit room k : ℕ)
    → 2 ≤ limit → limit ≤ most_depth → k ≤ room → 20 + 12 * k ≤ most24 → Reaches D limit room k
unfolding extremal allowed decoded message_refusals message_of run_counts run_records
reached D g limit room k low high fits le =
    let n = groups_length k in
    let m = message_read (record { flags = 0; code = 0; app_id = 0; hop_id = 0; end_id = 0 }) (failing_groups k) (omega arith) in
    let run : tree (avps D) (message_body (extremal k)) ≡ chain k = ap (tree (avps D)) m.body_is ∙ chained D g k in
    let rs = parented_count (records D 20 1 (tree (avps D) (message_body (extremal k)))) ∙ ap length (ap (records D 20 1) run) ∙ chain_records D 20 1 k in
    let deep = chain_deepest k in
    record {
      bytes = m.length_is ∙ omega arith;
      is_accepted =
          accepts (message_refusals D limit room (extremal k)) (message_of D (extremal k))
          (simp (passes_append, run, parented_count (records D 20 1 (chain k)), chain_records D 20 1 k) (simp tests (search (chain_tiles, arith))));
      tried_is = ap tried run ∙ chain_tried k;
      records_is = rs;
      length_is = m.stated ∙ omega arith;
    }

-- ---- the bound

pub body_length : (s : List ℕ) → length (message_body s) ≤ message_length s - 20
unfolding message_body
body_length s = let l = length-take (message_length s - 20) (drop 20 s) in omega arith

pub headers_tried : (D : Dictionary) (limit room : ℕ) (s : List ℕ) (m : Message)
    → decoded D limit room s ≡ accepted m → 6 * m.counts.tried ≤ m.counts.length - 20
unfolding message_of run_counts
headers_tried D limit room s m e =
    let a = when_accepted D limit room s m e in
    let b = tried_bound D (message_body s) a.tiled in
    let t = ap (λ (x : Message). x.counts.tried) a.message_is in
    let l = ap (λ (x : Message). x.counts.length) a.message_is in
    omega (arith, body_length s)

-- the best such bound, in either reading and in both editions
module _ (limit room k : ℕ) (low : 2 ≤ limit) (high : limit ≤ most_depth) (fits : k ≤ room) (short : 20 + 12 * k ≤ most24) where
  pub best_sawp : Reaches sawp limit room k
  unfolding sawp
  best_sawp = reached sawp refl limit room k low high fits short

  pub best_rfc : Reaches rfc limit room k
  unfolding rfc
  best_rfc = reached rfc refl limit room k low high fits short

  best_4006 : Reaches rfc4006 limit room k
  unfolding rfc4006
  best_4006 = reached rfc4006 refl limit room k low high fits short

  best_8506 : Reaches rfc8506 limit room k
  unfolding rfc8506
  best_8506 = reached rfc8506 refl limit room k low high fits short

  pub best_edition : (n : ℕ) → Reaches (edition_of n) limit room k
  best_edition = each_edition (λ D. Reaches D limit room k) best_4006 best_8506 best_rfc
