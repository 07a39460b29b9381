-- What the functions that put records ask and leave.
use Rattle.std.specs.Prelude.{ℕ, ◌+◌, ◌-◌, ◌*◌, ◌≤◌, ◌≡◌, List, ◌++◌, length, replicate}
use Rattle.octets.specs.Octets.{over}
use Rattle.octets.specs.Run.{Tree, items}
use Rattle.record.specs.Record.{record_size, last_place, record_bytes, laid}
use Rattle.rfc2865.specs.Attribute.{head_size, attribute_length}
use Rattle.rfc2865.specs.Records.{value_of, record_of, records, errors}

-- s is an attribute's own bytes, all of them, whose places fit the four bytes of a record
pub record Own (place : ℕ) (s : List ℕ) : Type 0 where
  pub least : head_size ≤ length s
  pub length_is : attribute_length s ≡ length s
  pub places_fit : place + length s ≤ last_place

-- its record stands at the front of the store, and its flags are answered
pub record Put (s : List ℕ) (place e : ℕ) (before after : List ℕ) : Type 0 where
  pub errors_are : e ≡ (value_of s).errors
  pub store_is : after ≡ over (record_bytes (record_of place s)) before

-- the records of t fit a store of l bytes, and the places of n bytes from a place on the four bytes of a record
pub record Room (t : Tree) (place n l : ℕ) : Type 0 where
  pub records_fit : length (items t) * record_size ≤ l
  pub places_fit : place + n ≤ last_place

-- the store holds the records of t, and zero to its last byte; their flags are answered
pub record Cleared (t : Tree) (place e : ℕ) (before after : List ℕ) : Type 0 where
  pub errors_are : e ≡ errors (items t)
  pub store_is : let bytes = laid (records place (items t)) in after ≡ bytes ++ replicate (length before - length bytes) 0
