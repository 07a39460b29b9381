-- Write, then decode: what the writer wrote is accepted, in any room that holds its records, with the header that was given, and with a
-- record for each of the table's, of the same type, length and data. The attributes of records that keep the rules are read one by one:
-- each is complete, and what follows it is the rest.
use Prim.Native.Nat.{ℕ, ◌+◌, ◌%◌, ◌^◌, ◌≤◌}
use mathlib.Core.Path.{◌≡◌, refl, sym, ap, ap₂, ◌∙◌}
use mathlib.Core.Bool.{true}
use mathlib.Core.List.{List, [], ◌∷◌, ◌++◌, map, append_assoc, append-nil}
use native.Mathlib.Omega.{arith}
use lib.ListN.{length, drop, length-append, length-map}
use lib.Seq.{take_at, drop_at}
use Rattle.octets.specs.Octets.{be, field, pack}
use Rattle.octets.specs.Run.{Tree, item, after, tree, tiles, items}
use Rattle.octets.proofs.Numbers.{length_pack, read_field}
use Rattle.octets.proofs.Runs.{tree_none, tree_plain}
use Rattle.refusal.specs.Answer.{accepted}
use Rattle.record.specs.Record.{Record}
use Rattle.record.specs.Table.{table_of}
use Rattle.rfc2865.specs.Attribute.{head_size, code, attribute_length, payload, complete, attributes}
use Rattle.rfc2865.specs.Packet.{header_size, most_packet, Header, packet_length, header_of, run, packet_records, packet_of, decoded}
use Rattle.rfc2865.specs.Writer.{stated_data, data_in, attribute_bytes, run_bytes, table_bytes, written}
use Rattle.rfc2865.specs.Seen.{Seen, seen_in, seen_at, seen}
use Rattle.rfc2865.proofs.Accepted.{is_accepted}
use Rattle.rfc2865.proofs.Items.{sound, whole_complete}
use Rattle.rfc2865.proofs.Lengths.{head, data_length, attribute_length_lem, packet_length_lem}
use Rattle.rfc2865.proofs.Packets.{Sized, packet_read, packet_headed}
use Rattle.rfc2865.proofs.Rules.{Kept, Good, keeps_good}
use Rattle.rfc2865.proofs.Tried.{records_length}
use Rattle.rfc2865.proofs.Written.{written_writable}

-- ---- an attribute before other bytes

module _ (pool : List ℕ) (r : Record) (g : Good (length pool) r) (x : List ℕ) where
  abbrev own : List ℕ
  own = attribute_bytes pool r

  record Before : Type 0 where
    code_is : code (own ++ x) ≡ r.code
    length_is : attribute_length (own ++ x) ≡ r.length
    payload_is : payload (own ++ x) ≡ data_in pool r
    is_complete : complete (own ++ x) ≡ true
    item_is : item attributes (own ++ x) ≡ own
    after_is : after attributes (own ++ x) ≡ x

  before : Before
  unfolding attribute_bytes payload item after
  before =
      let s = own ++ x in
      let rest = data_in pool r ++ x in
      let split : s ≡ pack (head r) ++ rest = append_assoc (pack (head r)) (data_in pool r) x in
      let code_low : be 1 s 0 ≡ r.code % 256 ^ 1 = rw split (read_field [] 1 r.code (drop 1 (head r)) rest) in
      let length_low : be 1 s 1 ≡ r.length % 256 ^ 1 = rw split (read_field (field 1 r.code ∷ []) 1 r.length [] rest) in
      let c : code s ≡ r.code = code_low ∙ omega (arith, g.code_fits) in
      let l : attribute_length s ≡ r.length = length_low ∙ omega (arith, g.most) in
      let all = length-append own x in
      record {
        code_is = c;
        length_is = l;
        payload_is = rw (l, split, drop_at (pack (head r)) rest head_size (length_pack (head r))) (take_at (data_in pool r) x (stated_data r) (data_length pool r g));
        is_complete = whole_complete s (record { least = omega (arith, g.least); there = omega (arith, attribute_length_lem pool r g) });
        item_is = rw l (take_at own x r.length (attribute_length_lem pool r g));
        after_is = rw l (drop_at own x r.length (attribute_length_lem pool r g));
      }

  -- with others after it, it is read as the record says
  seen_before : seen_in (own ++ x) ≡ seen_at pool r
  unfolding seen_in seen_at
  seen_before = let b = before in rw (b.code_is, b.length_is, b.payload_is)

-- and so by itself
seen_own : (pool : List ℕ) (r : Record) → Good (length pool) r → seen_in (attribute_bytes pool r) ≡ seen_at pool r
seen_own pool r g = ap seen_in (sym (append-nil (attribute_bytes pool r))) ∙ seen_before pool r g []

-- ---- the attributes of a table

-- a run t of the attributes of some records
record Run (pool : List ℕ) (rs : List Record) (t : Tree) : Type 0 where
  tiled : tiles t ≡ true
  items_are : items t ≡ map (attribute_bytes pool) rs
  same_seen : map seen_in (items t) ≡ seen pool rs

run_read : (pool : List ℕ) (rs : List Record) → Kept (length pool) rs → Run pool rs (tree attributes (run_bytes pool rs))
run_read pool [] k = rw tree_none (record { tiled = refl; items_are = refl; same_seen = refl })
run_read pool (r ∷ rs) k =
    let g = keeps_good (length pool) r k.0 in
    let x = run_bytes pool rs in
    let b = before pool r g x in
    let later = run_read pool rs k.1 in
    rw (tree_plain attributes sound (attribute_bytes pool r ++ x) b.is_complete refl, b.item_is, b.after_is)
    (record {
      tiled = later.tiled;
      items_are = ap (λ (y : List (List ℕ)). attribute_bytes pool r ∷ y) later.items_are;
      same_seen = ap₂ (λ (y : Seen) (ys : List Seen). y ∷ ys) (seen_own pool r g) later.same_seen;
    })

-- ---- the packet

pub record ReadsBack (h : Header) (table pool : List ℕ) (n : ℕ) (s : List ℕ) : Type 0 where
  pub length_is : length s ≡ n
  pub stated : packet_length s ≡ n
  pub header_is : header_of s ≡ h
  pub count_is : length (packet_records s) ≡ length (table_of table)
  pub is_accepted : (room : ℕ) → length (table_of table) ≤ room → decoded room s ≡ accepted (packet_of s)
  pub same_seen : map seen_in (items (run s)) ≡ seen pool (table_of table)

pub read_back : (h : Header) (table pool : List ℕ) (room n : ℕ) → Sized h → written h table pool room ≡ accepted n
    → ReadsBack h table pool n (table_bytes h table pool)
unfolding table_bytes packet_records
read_back h table pool room n z e =
    let rs = table_of table in
    let body = run_bytes pool rs in
    let s = table_bytes h table pool in
    let (w, total_is) = written_writable h table pool room n e in
    let total = packet_length_lem h z.authenticator_is body in
    let short : header_size + length body ≤ most_packet = omega (arith, w.short) in
    let r = packet_read h body z short in
    let ran = run_read pool rs w.kept in
    let own : items (run s) ≡ map (attribute_bytes pool) rs = rw r.body_is ran.items_are in
    let count : length (packet_records s) ≡ length rs = records_length header_size (items (run s)) ∙ ap length own ∙ length-map rs (attribute_bytes pool) in
    record {
      length_is = total_is;
      stated = r.stated ∙ omega arith;
      header_is = r.header_is;
      count_is = count;
      is_accepted = λ room' fits. is_accepted room' s (packet_headed h s body short r) (rw r.body_is ran.tiled) (omega arith);
      same_seen = rw r.body_is ran.same_seen;
    }
