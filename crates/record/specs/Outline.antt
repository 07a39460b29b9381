-- An outline and its bytes: what bytes 0..15 and 19..22 of a record say (docs/FORMAT.md, 6.4).
use Rattle.std.specs.Prelude.{ℕ, List, [], ◌∷◌}
use Rattle.record.specs.declared.outline.Outline as declared
use Rattle.octets.specs.Octets.{fields, pack}
use Rattle.record.specs.Record.{Record}

-- an outline is what the struct of record/src/outline.rt is
abbrev pub Outline : Type 0
Outline = declared.Outline

-- that of a record
abbrev pub outline_of : Record → Outline
outline_of r =
    record {
      code = r.code;
      flags = r.flags;
      length = r.length;
      vendor = r.vendor;
      place = r.place;
      padding = r.padding;
      pads = r.pads;
    }

abbrev pub outline_numbers : Outline → List ℕ
outline_numbers o = o.code ∷ o.flags ∷ o.length ∷ o.vendor ∷ o.place ∷ o.padding ∷ o.pads ∷ []

unfoldable pub outline_bytes : Outline → List ℕ
outline_bytes o = pack (fields (4 ∷ 1 ∷ 3 ∷ 4 ∷ 4 ∷ 1 ∷ 3 ∷ []) (outline_numbers o))
