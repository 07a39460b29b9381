-- The rule of the fields that RADIUS has no use for, by itself.
use Rattle.std.specs.Prelude.{Bool, [], ◌∷◌, eqb}
use Rattle.record.specs.Record.{Record}
use Rattle.record.specs.Parents.{top_level}
use Rattle.record.specs.Table.{all}

abbrev pub is_fixed : Record → Bool
is_fixed r =
    all
    (eqb r.depth 1
    ∷ eqb r.flags 0
    ∷ eqb r.vendor 0
    ∷ eqb r.padding 0
    ∷ eqb r.pads 0
    ∷ eqb r.parent top_level
    ∷ [])
