-- Of an accepted packet the attributes tried are its records, and twice their number is at most the length less 20 (`Tried`). That is the
-- best such bound: k attributes with no value are a packet of 20 + 2k bytes that tries k, for every k up to the largest packet. Its tree
-- is a chain of k, so the counts are inductions over k.
use Prim.Native.Nat.{ℕ, zero, suc, ◌+◌, ◌-◌, ◌*◌, ◌≤◌}
use mathlib.Core.Path.{◌≡◌, refl, ap, ◌∙◌}
use mathlib.Core.Bool.{true}
use mathlib.Core.List.{List, ◌++◌}
use native.Mathlib.Omega.{arith}
use lib.ListN.{length, drop, replicate, length-take, length-append}
use Rattle.octets.specs.Octets.{be}
use Rattle.octets.specs.Run.{item, after, Tree, done, plain, tree, tiles, tried, items}
use Rattle.octets.proofs.Runs.{tree_none, tree_plain}
use Rattle.refusal.specs.Answer.{accepted}
use Rattle.rfc2865.specs.Attribute.{attributes}
use Rattle.rfc2865.specs.Packet.{header_size, authenticator_size, most_packet, packet_length, Header, packet_body, run, packet_records, Packet, packet_of, decoded}
use Rattle.rfc2865.specs.Extremal.{empty, empties, extremal}
use Rattle.rfc2865.proofs.Accepted.{when_accepted, is_accepted}
use Rattle.rfc2865.proofs.Items.{sound, whole_complete}
use Rattle.rfc2865.proofs.Packets.{Sized, packet_read, packet_headed}
use Rattle.rfc2865.proofs.Tried.{few, records_length}

-- ---- the bound

body_length : (s : List ℕ) → length (packet_body s) ≤ packet_length s - header_size
unfolding packet_body
body_length s = let l = length-take (packet_length s - header_size) (drop header_size s) in omega arith

pub record Bounded (p : Packet) : Type 0 where
  pub own : p.counts.tried ≡ p.counts.records
  pub twice : 2 * p.counts.tried ≤ p.counts.length - 20

pub attributes_tried : (room : ℕ) (s : List ℕ) (p : Packet) → decoded room s ≡ accepted p → Bounded p
unfolding packet_of packet_records
attributes_tried room s p e =
    let a = when_accepted room s p e in
    let f = few (packet_body s) in
    let own = f.own a.tiled in
    let bound = f.twice a.tiled in
    let t = ap (λ (x : Packet). x.counts.tried) a.packet_is in
    let n = ap (λ (x : Packet). x.counts.records) a.packet_is in
    let l = ap (λ (x : Packet). x.counts.length) a.packet_is in
    record {
      own = omega (arith, records_length header_size (items (run s)));
      twice = omega (arith, body_length s);
    }

-- ---- it is reached

abbrev chain : ℕ → Tree
chain zero = done
chain (suc k) = plain empty (chain k)

chained : (k : ℕ) → tree attributes (empties k) ≡ chain k
unfolding be item after
chained zero = tree_none attributes
chained (suc k) =
    let s = empty ++ empties k in
    tree_plain attributes sound s (whole_complete s (record { least = omega arith; there = omega arith })) refl ∙ ap (plain empty) (chained k)

chain_tiles : (k : ℕ) → tiles (chain k) ≡ true
chain_tiles zero = refl
chain_tiles (suc k) = chain_tiles k

chain_tried : (k : ℕ) → tried (chain k) ≡ k
chain_tried zero = refl
chain_tried (suc k) = omega (arith, chain_tried k)

chain_items : (k : ℕ) → length (items (chain k)) ≡ k
chain_items zero = refl
chain_items (suc k) = ap suc (chain_items k)

empties_length : (k : ℕ) → length (empties k) ≡ 2 * k
empties_length zero = refl
empties_length (suc k) = length-append empty (empties k) ∙ omega (arith, empties_length k)

pub record Reaches (room k : ℕ) : Type 0 where
  pub bytes : length (extremal k) ≡ 20 + 2 * k
  pub is_accepted : decoded room (extremal k) ≡ accepted (packet_of (extremal k))
  pub tried_is : (packet_of (extremal k)).counts.tried ≡ k
  pub length_is : (packet_of (extremal k)).counts.length ≡ 20 + 2 * k

pub reached : (room k : ℕ) → k ≤ room → 20 + 2 * k ≤ most_packet → Reaches room k
unfolding extremal packet_of packet_records
reached room k fits short =
    let h : Header = record { code = 4; identifier = 0; authenticator = replicate authenticator_size 0 } in
    let z : Sized h = record { code_fits = omega arith; identifier_fits = omega arith; authenticator_is = refl } in
    let body = empties k in
    let n = empties_length k in
    let le : header_size + length body ≤ most_packet = omega arith in
    let s = extremal k in
    let r = packet_read h body z le in
    let ran : run s ≡ chain k = ap (tree attributes) r.body_is ∙ chained k in
    let count : length (packet_records s) ≡ k = records_length header_size (items (run s)) ∙ ap (λ (t : Tree). length (items t)) ran ∙ chain_items k in
    record {
      bytes = r.length_is ∙ omega arith;
      is_accepted = is_accepted room s (packet_headed h s body le r) (ap tiles ran ∙ chain_tiles k) (omega arith);
      tried_is = ap tried ran ∙ chain_tried k;
      length_is = r.stated ∙ omega arith;
    }
