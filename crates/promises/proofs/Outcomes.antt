-- What the functions return, by the names that the promises use: a value, or the refusal.
use Rattle.std.specs.Prelude.{ℕ, Option, Result}
use Rattle.std.specs.declared.cmp.Ordering.{Ordering}
use Rattle.refusal.specs.Answer.{Refusal}
use Rattle.record.specs.Outline.{Outline}
use Rattle.avps.specs.declared.Counts.{Counts}
use Rattle.diameter.specs.declared.Message.{Message}
use Rattle.radius_attributes.specs.declared.Counts as attributes
use Rattle.radius.specs.declared.Packet.{Packet}

-- a message
abbrev pub Decoded : Type 0
Decoded = Result Message Refusal

-- a run, or one AVP alone
abbrev pub Filled : Type 0
Filled = Result Counts Refusal

-- a run of attributes of RADIUS
abbrev pub FilledAttributes : Type 0
FilledAttributes = Result attributes.Counts Refusal

-- how many bytes a writer wrote
abbrev pub Written : Type 0
Written = Result ℕ Refusal

-- how many records were moved
abbrev pub Shifted : Type 0
Shifted = Result ℕ Refusal

-- how one Unit-Value stands to another
abbrev pub Compared : Type 0
Compared = Result Ordering Refusal

-- the first AVP with a code, or none
abbrev pub Found : Type 0
Found = Result (Option Outline) Refusal

-- a packet of RADIUS, without its authenticator
abbrev pub DecodedPacket : Type 0
DecodedPacket = Result Packet Refusal
