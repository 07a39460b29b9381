-- What stands at the top level: code, flags, vendor, data and padding of each AVP, in a run and in a table.
use Rattle.std.specs.Prelude.{ℕ, List, [], ◌∷◌}
use Rattle.octets.specs.Run.{Tree, done, broken, plain, group}
use Rattle.rfc6733.specs.Avp as avp
use Rattle.record.specs.Record.{Record}
use Rattle.record.specs.Forest.{Forest, none, node}
use Rattle.rfc6733.specs.Writer.{forest_bytes, body_of}

pub record Top : Type 0 where
  pub code : ℕ
  pub flags : ℕ
  pub vendor : ℕ
  pub body : List ℕ
  -- how many bytes, and those bytes as a number of three
  pub padding : ℕ
  pub pads : ℕ

-- ---- in a run

-- of an AVP's own bytes
unfoldable pub top_of : List ℕ → Top
top_of a =
    record {
      code = avp.code a;
      flags = avp.flags a;
      vendor = avp.vendor a;
      body = avp.payload a;
      padding = avp.padding (avp.data_size a);
      pads = avp.pads a;
    }

abbrev pub tops : Tree → List Top
tops done = []
tops broken = []
tops (plain a rest) = top_of a ∷ tops rest
tops (group a inner rest) = top_of a ∷ tops rest

-- ---- in a table

-- of a record and its data
unfoldable pub top_record : Record → List ℕ → Top
top_record r body =
    record { code = r.code; flags = r.flags; vendor = r.vendor; body = body; padding = r.padding; pads = r.pads }

-- a group's data are its members' bytes
abbrev pub top_records : List ℕ → Forest → List Top
top_records pool none = []
top_records pool (node r members rest) = top_record r (body_of pool r (forest_bytes pool members)) ∷ top_records pool rest

-- the records at the top of a forest
abbrev pub roots : Forest → List Record
roots none = []
roots (node r members rest) = r ∷ roots rest
