-- `read_attribute` meets its contract: the attribute's length is that of its own bytes, so what is after its two first bytes is its
-- value, and the record that is put is the definition's.
use mathlib.Core.Path.{◌≡◌, ap, ◌∙◌}
use Rattle.octets.proofs.Numbers.{one_byte}
use Rattle.record.specs.Value as values
use Rattle.record.proofs.Room.{put_with_room}
use Rattle.rfc2865.specs.Attribute.{payload}
use Rattle.rfc2865.specs.Records.{value_of, record_of}
use Rattle.radius_value.specs.Values.{value_as}
use Rattle.radius_attributes.proofs.read_attribute.Goals as goal
use Rattle.radius_attributes.proofs.read_attribute.Goals.{After-read-value}

-- the value is that of the attribute
value_is : (c : After-read-value) → value_as c.read-value.result ≡ value_of c.args.s.now
unfolding value_of payload
value_is c = rw (one_byte c.args.s.now 0, c.requires.own.length_is) (rw (c.kind.ensures) at c.read-value.ensures)

pub returns : goal.returns
unfolding record_of
returns c =
    let value = value_is (goal.at.returns c).After-read-value in
    record {
      errors_are = ap (λ (x : values.Value). x.errors) value;
      store_is =
          rw (← value, one_byte c.args.s.now 0, c.requires.own.length_is)
          (c.put.ensures.store ∙ put_with_room _ c.args.store.now c.requires.record_size_in_bounds);
    }
