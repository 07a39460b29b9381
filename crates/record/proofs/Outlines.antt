-- The bytes of a record's outline are bytes 0..15 and 19..22 of the record: both are the same fields, laid out with the same widths.
use mathlib.Core.Path.{◌≡◌, refl}
use mathlib.Core.List.{◌++◌}
use lib.ListN.{take, drop}
use Rattle.octets.specs.Octets.{octets}
use Rattle.record.specs.Record.{Record, record_bytes}
use Rattle.record.specs.Outline.{outline_of, outline_bytes}

pub outline_bytes_lem : (r : Record) → outline_bytes (outline_of r) ≡ take 16 (record_bytes r) ++ take 4 (drop 19 (record_bytes r))
unfolding outline_bytes record_bytes octets
outline_bytes_lem r = refl
