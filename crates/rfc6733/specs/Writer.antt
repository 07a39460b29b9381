-- What the writer answers, and what the output holds afterwards (docs/FORMAT.md, 8).
use Rattle.std.specs.Prelude.{ℕ, suc, ◌+◌, ◌-◌, ◌%◌, ◌^◌, Bool, cond, ◌&&◌, ◌||◌, List, [], ◌∷◌, ◌++◌, length, take, drop, leb, ltb, eqb}
use Rattle.octets.specs.Octets.{octets, Field, pack, fields_of}
use Rattle.refusal.specs.Answer.{Answer, refuse, answer}
use Rattle.refusal.specs.declared.Refusal.TheVariants.{BadHeader, TooLong, NoRoom}
use Rattle.flags.specs.Flags.{bit}
use Rattle.rfc6733.specs.Avp as avp
use Rattle.rfc6733.specs.Header.{Header, header_layout}
use Rattle.record.specs.Kinds.{grouped, time}
use Rattle.record.specs.Record.{Record}
use Rattle.record.specs.Parents.{parent_at}
use Rattle.record.specs.Forest.{Forest, none, node, forest}
use Rattle.record.specs.Table.{table_of, all, bad_table}

-- the header fields that the writer takes
pub record Fields : Type 0 where
  pub flags : ℕ
  pub code : ℕ
  pub app_id : ℕ
  pub hop_id : ℕ
  pub end_id : ℕ

-- ---- the rules

abbrev pub is_group : Record → Bool
is_group r = eqb r.kind grouped

-- how long its AVP's header is, and how many bytes of data a record states
unfoldable pub head_of : Record → ℕ
head_of r = avp.head_size r.flags

unfoldable pub stated_data : Record → ℕ
stated_data r = r.length - head_of r

-- the rules of a record that is no group, where n bytes are there to point into
unfoldable pub keeps_leaf : ℕ → Record → Bool
keeps_leaf n r =
    all
    (leb (head_of r) r.length
    ∷ leb (r.place + stated_data r) n
    ∷ eqb r.padding (avp.padding (stated_data r))
    ∷ eqb (r.pads % 256 ^ (3 - r.padding)) 0
    ∷ [])

-- A record keeps the rules but its parent's where a depth is allowed at most, and n bytes are there to point into.
unfoldable pub keeps : ℕ → ℕ → Record → Bool
keeps allowed n r =
    all
    (leb 1 r.depth
    ∷ leb r.depth avp.most_depth
    ∷ leb r.depth allowed
    ∷ leb r.kind time
    ∷ (bit avp.vendor_bit r.flags || eqb r.vendor 0)
    ∷ cond (is_group r)
    (eqb r.padding 0 && eqb r.pads 0)
    (keeps_leaf n r)
    ∷ [])

-- the depth that is allowed after it: one more only after a group
unfoldable pub allowed_after : Record → ℕ
allowed_after r = cond (is_group r) (r.depth + 1) r.depth

-- the parent's rule, tested last: it is the one that earlier depths tell, the last of these first
abbrev pub keeps_parent : List ℕ → Record → Bool
keeps_parent earlier r = eqb r.parent (parent_at earlier r.depth)

-- how many records keep the rules before the first that breaks one, after these earlier depths; the first of a table has depth 1
abbrev pub keepers : List ℕ → ℕ → ℕ → List Record → ℕ
keepers earlier allowed n [] = 0
keepers earlier allowed n (r ∷ rs) =
    let more = keepers (r.depth ∷ earlier) (allowed_after r) n rs in
    cond (keeps allowed n r && keeps_parent earlier r) (suc more) 0

-- ---- the bytes

-- the fields of the header of an AVP whose length is n
abbrev pub head_fields : Record → ℕ → List Field
head_fields r n = avp.head_fields (record { code = r.code; flags = r.flags; length = n; vendor = r.vendor })

-- the padding
abbrev pub pad_bytes : Record → List ℕ
pad_bytes r = take r.padding (octets 3 r.pads)

-- an AVP with its data: the length is computed
unfoldable pub avp_bytes : Record → List ℕ → List ℕ
avp_bytes r body = pack (head_fields r (head_of r + length body)) ++ (body ++ pad_bytes r)

-- the data of a record that is no group: what its place points at
abbrev pub data_in : List ℕ → Record → List ℕ
data_in pool r = take (stated_data r) (drop r.place pool)

-- the data: the members' bytes of a group, and those of another
abbrev pub body_of : List ℕ → Record → List ℕ → List ℕ
body_of pool r members = cond (is_group r) members (data_in pool r)

abbrev pub forest_bytes : List ℕ → Forest → List ℕ
forest_bytes pool none = []
forest_bytes pool (node r members rest) = avp_bytes r (body_of pool r (forest_bytes pool members)) ++ forest_bytes pool rest

-- the header of a message of n bytes
abbrev pub header_with : ℕ → Fields → ℕ → Header
header_with version f n =
    record { version = version; length = n; flags = f.flags; code = f.code; app_id = f.app_id; hop_id = f.hop_id; end_id = f.end_id }

-- its fields, with version 1
abbrev pub header_fields : Fields → ℕ → List Field
header_fields f n = fields_of header_layout (header_with 1 f n)

-- a message with these AVPs; its length is computed
unfoldable pub message_bytes : Fields → List ℕ → List ℕ
message_bytes f body = pack (header_fields f (20 + length body)) ++ body

-- ---- the answer

-- the message of a table
unfoldable pub table_bytes : Fields → List ℕ → List ℕ → List ℕ
table_bytes f table pool = message_bytes f (forest_bytes pool (forest (table_of table)))

-- the largest number of 24 bits: a command code, a message's length
abbrev pub most24 : ℕ
most24 = 16777215

-- by the header fields, the table, the bytes that its places point into, and how many bytes of output there are: the total
unfoldable pub written : Fields → List ℕ → List ℕ → ℕ → Answer ℕ
written f table pool room =
    let kept = keepers [] 1 (length pool) (table_of table) in
    let total = length (table_bytes f table pool) in
    answer
    (refuse (ltb most24 f.code) BadHeader
    ∷ bad_table kept table
    ∷ refuse (ltb most24 total) TooLong
    ∷ refuse (ltb room total) (NoRoom total)
    ∷ [])
    total
