-- Damage to the data of an AVP: the message is accepted as before but for its error flags, and its table but for what
-- was found of that AVP and the error flags of the groups around it.
use Rattle.std.specs.Prelude.{ℕ, ◌≡◌, Bool, List, eqb}
use Rattle.refusal.specs.Answer.{accepted}
use Rattle.record.specs.Kinds.{grouped}
use Rattle.record.specs.Record.{Record}
use Rattle.record.specs.Damage.{Damaged}
use Rattle.rfc6733.specs.Dictionary.{Dictionary}
use Rattle.rfc6733.specs.Decoder.{Message, message_records, decoded}

-- The dictionary takes the AVP of a record as Grouped, by its code and vendor. Its record has another kind where its
-- members don't tile.
abbrev pub taken_as_grouped : Dictionary → Record → Bool
taken_as_grouped D r = eqb (D.kind r.code r.vendor) grouped

-- a message with other error flags
abbrev pub with_errors : Message → ℕ → Message
with_errors m errors =
    record {
      header = m.header;
      counts = record { errors = errors; records = m.counts.records; tried = m.counts.tried; length = m.counts.length };
    }

-- The bytes s are those of the message m. The bytes s' are accepted with the same limits, as m but for its error flags,
-- and their table differs as it may where the data of the record of index k are others.
pub record Stays (D : Dictionary) (limit room : ℕ) (s : List ℕ) (m : Message) (k : ℕ) (s' : List ℕ) : Type 0 where
  pub errors : ℕ
  pub is_accepted : decoded D limit room s' ≡ accepted (with_errors m errors)
  pub damaged : Damaged (message_records D s) k (message_records D s')
