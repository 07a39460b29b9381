-- What the writer of packets answers (docs/FORMAT.md, 11.5), and the bytes that it writes.
use Rattle.std.specs.Prelude.{ℕ, suc, ◌+◌, ◌-◌, Bool, cond, List, [], ◌∷◌, ◌++◌, length, take, drop, leb, ltb, eqb}
use Rattle.octets.specs.Octets.{pack, fields_of}
use Rattle.refusal.specs.Answer.{Answer, refuse, answer}
use Rattle.refusal.specs.declared.Refusal.TheVariants.{TooLong, NoRoom}
use Rattle.record.specs.Record.{Record}
use Rattle.record.specs.Parents.{top_level}
use Rattle.record.specs.Table.{table_of, all, bad_table}
use Rattle.rfc2865.specs.Attribute.{head_size, head_layout, most_length}
use Rattle.rfc2865.specs.Packet.{Header, front_layout, header_size, most_packet}

-- ---- the rules

-- how many bytes of data a record states
abbrev pub stated_data : Record → ℕ
stated_data r = r.length - head_size

-- A record keeps the rules where n bytes are there to point into.
unfoldable pub keeps : ℕ → Record → Bool
keeps n r =
    all
    (leb r.code 255
    ∷ leb head_size r.length
    ∷ leb r.length most_length
    ∷ eqb r.depth 1
    ∷ eqb r.flags 0
    ∷ eqb r.vendor 0
    ∷ eqb r.padding 0
    ∷ eqb r.pads 0
    ∷ eqb r.parent top_level
    ∷ leb (r.place + stated_data r) n
    ∷ [])

-- how many records keep them before the first that breaks one
abbrev pub keepers : ℕ → List Record → ℕ
keepers n [] = 0
keepers n (r ∷ rs) = cond (keeps n r) (suc (keepers n rs)) 0

-- ---- the bytes

-- the data of a record: what its place points at
abbrev pub data_in : List ℕ → Record → List ℕ
data_in pool r = take (stated_data r) (drop r.place pool)

unfoldable pub attribute_bytes : List ℕ → Record → List ℕ
attribute_bytes pool r = pack (fields_of head_layout (record { code = r.code; length = r.length })) ++ data_in pool r

abbrev pub run_bytes : List ℕ → List Record → List ℕ
run_bytes pool [] = []
run_bytes pool (r ∷ rs) = attribute_bytes pool r ++ run_bytes pool rs

-- the header of a packet of n bytes
unfoldable pub header_bytes : Header → ℕ → List ℕ
header_bytes h n =
    pack (fields_of front_layout (record { code = h.code; identifier = h.identifier; length = n })) ++ h.authenticator

-- a packet with these attributes; its length is computed
unfoldable pub packet_bytes : Header → List ℕ → List ℕ
packet_bytes h body = header_bytes h (header_size + length body) ++ body

-- ---- the answer

-- the packet of a table
unfoldable pub table_bytes : Header → List ℕ → List ℕ → List ℕ
table_bytes h table pool = packet_bytes h (run_bytes pool (table_of table))

-- by the header, the table, the bytes that its places point into, and how many bytes of output there are: the total
unfoldable pub written : Header → List ℕ → List ℕ → ℕ → Answer ℕ
written h table pool room =
    let kept = keepers (length pool) (table_of table) in
    let total = length (table_bytes h table pool) in
    answer (bad_table kept table ∷ refuse (ltb most_packet total) TooLong ∷ refuse (ltb room total) (NoRoom total) ∷ []) total
