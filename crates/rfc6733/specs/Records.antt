-- The records of a run (docs/FORMAT.md, 6), a group before its members.
use Rattle.std.specs.Prelude.{ℕ, ◌+◌, Bool, false, cond, not, List, [], ◌∷◌, ◌++◌, length, eqb}
use Rattle.octets.specs.Run.{Format, Tree, done, broken, plain, group, tree, tiles}
use Rattle.flags.specs.Flags.{data_value, non_zero_reserved, non_zero_padding, flag, join}
use Rattle.rfc6733.specs.Avp as avp
use Rattle.rfc6733.specs.Value.{data_as}
use Rattle.record.specs.Value.{Value, value}
use Rattle.record.specs.Kinds.{unhandled, grouped}
use Rattle.rfc6733.specs.Dictionary.{Dictionary}
use Rattle.record.specs.Record.{Record}
use Rattle.record.specs.Parents.{top_level}

-- ---- an AVP's record

-- the kind that the dictionary has for an AVP
unfoldable pub avp_kind : Dictionary → List ℕ → ℕ
avp_kind D a = D.kind (avp.code a) (avp.vendor a)

-- what it makes of the data of one that is not Grouped
unfoldable pub value_of : Dictionary → List ℕ → Value
value_of D a = data_as D.as_address (avp_kind D a) (avp.payload a)

-- reserved bits and padding raise their flags besides any flag of the kind
unfoldable pub own_errors : List ℕ → ℕ
own_errors a =
    join (flag (not (eqb (avp.avp_reserved (avp.flags a)) 0)) non_zero_reserved) (flag (not (eqb (avp.pads a) 0)) non_zero_padding)

-- the record of the AVP a, which stands at a place of the input. Its parent is set where the table is known (`run_records`)
unfoldable pub record_of : ℕ → ℕ → List ℕ → Value → Record
record_of place depth a v =
    record {
      code = avp.code a;
      flags = avp.flags a;
      length = avp.avp_length a;
      vendor = avp.vendor a;
      place = place + avp.head_size (avp.flags a);
      depth = depth;
      kind = v.kind;
      errors = join (own_errors a) v.errors;
      padding = avp.padding (avp.data_size a);
      pads = avp.pads a;
      value = v.number;
      parent = top_level;
    }

-- ---- a run of AVPs

-- AVPs as items of a run: the payload of one that the dictionary takes as Grouped is a run too
abbrev pub avps : Dictionary → Format
avps D =
    record {
      complete = avp.complete;
      size = avp.avp_size;
      nested = λ a. eqb (avp_kind D a) grouped;
      payload = avp.payload;
    }

-- the same with none entered: enough to say whether a run tiles, which does not depend on the dictionary
abbrev pub unentered : Format
unentered = record { complete = avp.complete; size = avp.avp_size; nested = λ a. false; payload = avp.payload }

unfoldable pub tiling : List ℕ → Bool
tiling s = tiles (tree unentered s)

-- the error flags of a run. Those inside a group that does not tile are dropped, and it raises DataValue. Departure D4
abbrev pub errors : Dictionary → Tree → ℕ
errors D done = 0
errors D broken = 0
errors D (plain a rest) = join (join (own_errors a) (value_of D a).errors) (errors D rest)
errors D (group a inner rest) =
    let inside = errors D inner in
    join (join (own_errors a) (cond (tiles inner) inside data_value)) (errors D rest)

-- what a group is, by its payload's tree
unfoldable pub group_value : Dictionary → Tree → Value
group_value D inner = cond (tiles inner) (value grouped (errors D inner) 0) (value unhandled data_value 0)

-- the records of a run that starts at a place of the input, at a depth. A group that does not tile has one and none for its members
abbrev pub records : Dictionary → ℕ → ℕ → Tree → List Record
records D place depth done = []
records D place depth broken = []
records D place depth (plain a rest) =
    record_of place depth a (value_of D a) ∷ records D (place + length a) depth rest
records D place depth (group a inner rest) =
    let members = records D (place + avp.head_size (avp.flags a)) (depth + 1) inner in
    record_of place depth a (group_value D inner)
    ∷ (cond (tiles inner) members [] ++ records D (place + length a) depth rest)

-- how many records that is
abbrev pub record_count : Tree → ℕ
record_count done = 0
record_count broken = 0
record_count (plain a rest) = 1 + record_count rest
record_count (group a inner rest) = 1 + cond (tiles inner) (record_count inner) 0 + record_count rest
