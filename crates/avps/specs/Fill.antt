-- What the readers of a run, an AVP and a value ask and leave.
use Rattle.std.specs.Prelude.{ℕ, ◌+◌, ◌-◌, ◌*◌, ◌^◌, ◌≤◌, ◌<◌, ◌≡◌, Bool, true, cond, List, ◌++◌, length, replicate, eqb}
use Rattle.octets.specs.Octets.{over}
use Rattle.octets.specs.Run.{Tree, tree, tried, deepest}
use Rattle.rfc6733.specs.Avp.{most_depth, head_size}
use Rattle.rfc6733.specs.Dictionary.{Dictionary}
use Rattle.record.specs.Kinds.{unhandled, grouped}
use Rattle.record.specs.Record.{Record, record_size, last_place, laid}
use Rattle.record.specs.Parents.{top_level, parented}
use Rattle.rfc6733.specs.Records.{avps, tiling, errors, records, record_count}
use Rattle.rfc6733.specs.Groups.{member_records}
use Rattle.rfc6733.specs.Entered.{value_in, entered}
use Rattle.avp.specs.declared.AVP.{AVP}
use Rattle.attribute.specs.declared.Dictionary as attribute
use Rattle.attribute.specs.ByTable.{dictionary_of}
use Rattle.avps.specs.declared.fill.Ran.{Ran}
use Rattle.avps.specs.declared.fill.Valued.{Valued}

-- the depth of a run that has so many levels left, its own among them
abbrev pub depth_at : ℕ → ℕ
depth_at left = most_depth + 1 - left

-- the group of a run whose first record has the index `first` stands right before it
abbrev pub group_before : ℕ → ℕ
group_before first = cond (eqb first 0) top_level (first - 1)

-- the AVP a, at a place and with so many levels left, has a record whose fields it fits
pub record Placed (a : AVP) (place left : ℕ) : Type 0 where
  pub length_fits : a.length < 256 ^ 3
  pub place_fits : place + head_size a.flags ≤ last_place
  pub level_fits : left ≤ most_depth
  pub padded : a.length ≤ a.size
  pub few : a.size - a.length ≤ 3

-- its record before its value is known
abbrev pub own_record : AVP → ℕ → ℕ → ℕ → ℕ → Record
own_record a place depth pads parent =
    record {
      code = a.code;
      flags = a.flags;
      length = a.length;
      vendor = a.vendor_id;
      place = place + head_size a.flags;
      depth = depth;
      kind = unhandled;
      errors = 0;
      padding = a.size - a.length;
      pads = pads;
      value = 0;
      parent = parent;
    }

-- the records of t fit a store of l bytes, the places of n bytes from a place on the four bytes of a record, and its depths the levels left.
-- The record of index `first` has a byte of input before it for each earlier one. Where `whole` says so, as many records are in t as headers
-- were tried, so that every group tiles (rfc6733/proofs/AllTile)
pub record Room (whole : Bool) (t : Tree) (place n first left l : ℕ) : Type 0 where
  pub records_fit : record_count t * record_size ≤ l
  pub places_fit : place + n ≤ last_place
  pub indices_fit : first ≤ place
  pub depths_fit : deepest t ≤ left
  pub levels_fit : left ≤ most_depth
  pub all_tile : whole ≡ true → tried t ≡ record_count t

-- where `whole` says so, the data of a group tile
abbrev pub Tiled : Bool → Dictionary → ℕ → ℕ → List ℕ → Type 0
Tiled whole D code vendor s = whole ≡ true → eqb (D.kind code vendor) grouped ≡ true → tiling s ≡ true

-- the records of t, under a parent and from the index `first` on, stand at the front of the store; their number and their flags are answered
pub record Recorded (D : Dictionary) (t : Tree) (place depth parent first : ℕ) (r : Ran) (before after : List ℕ) : Type 0 where
  pub count_is : r.records ≡ record_count t
  pub errors_are : r.errors ≡ errors D t
  pub store_is : after ≡ over (laid (member_records D place depth parent first t)) before

-- the same of the run s, with so many levels left
abbrev pub RunRecorded : Dictionary → List ℕ → ℕ → ℕ → ℕ → ℕ → Ran → List ℕ → List ℕ → Type 0
RunRecorded D s place parent first left r before after = Recorded D (tree (avps D) s) place (depth_at left) parent first r before after

-- the value is answered, and the records of the run that was entered stand at the front of the store
pub record Members (D : Dictionary) (code vendor : ℕ) (s : List ℕ) (place depth first : ℕ) (r : Valued) (before after : List ℕ) : Type 0 where
  pub kind_is : r.kind ≡ (value_in D code vendor s).kind
  pub number_is : r.number ≡ (value_in D code vendor s).number
  pub errors_are : r.errors ≡ (value_in D code vendor s).errors
  pub count_is : r.records ≡ record_count (entered D code vendor s)
  pub store_is : after ≡ over (laid (member_records D place (depth + 1) (group_before first) first (entered D code vendor s))) before

-- the same by a dictionary as the code has it, with so many levels left
abbrev pub ValueRead : attribute.Dictionary → ℕ → ℕ → List ℕ → ℕ → ℕ → ℕ → Valued → List ℕ → List ℕ → Type 0
ValueRead d code vendor s place first left r before after =
    Members (dictionary_of d) code vendor s place (depth_at left) first r before after

-- the store holds the records of t, and zero to its last byte; the flags are theirs
pub record Cleared (D : Dictionary) (t : Tree) (place e : ℕ) (before after : List ℕ) : Type 0 where
  pub errors_are : e ≡ errors D t
  pub store_is :
      let bytes = laid (parented (records D place 1 t)) in
      after ≡ bytes ++ replicate (length before - length bytes) 0

-- the same of the run s
abbrev pub RunCleared : Dictionary → List ℕ → ℕ → ℕ → List ℕ → List ℕ → Type 0
RunCleared D s place e before after = Cleared D (tree (avps D) s) place e before after
