-- How long a line is at most: the digits of each of its numbers, and a byte after each; so a record's line takes no more than 75 bytes.
use Prim.Native.Nat.{◌*◌, ◌^◌, ◌≤◌, ◌<◌}
use mathlib.Core.List.{List, [], ◌∷◌}
use native.Mathlib.Omega.{arith}
use lib.ListN.{length, length-append}
use Rattle.octets.proofs.Layouts.{fit_at}
use Rattle.record.specs.Record.{Record, record_layout}
use Rattle.record.specs.Counts.{Counts}
use Rattle.record.specs.Table.{bare, Every, Fits, AllFit}
use Rattle.refusal.specs.Answer.{Refusal}
use Rattle.refusal.specs.Refusals.{number_of, amount_of}
use Rattle.rfc6733.specs.Dump.{record_line, record_lines, first_line, line, lines_text, refusal_text}
use Rattle.record.proofs.Back.{Valued}
use Rattle.lines.proofs.Decimals.{decimal_short, decimal_most}

record_short : (r : Record) → Fits r → Valued r → length (line (record_line r)) ≤ 75
unfolding bare
record_short r f v =
    let fits = fit_at record_layout.sizes (record_layout.numbers (bare r)) f in
    let depth = decimal_short 2 r.depth (omega (arith, fits 5)) in
    let code = decimal_short 9 r.code (omega (arith, fits 0)) in
    let vendor = decimal_short 9 r.vendor (omega (arith, fits 3)) in
    let kind = decimal_short 2 r.kind (omega (arith, fits 6)) in
    let errors = decimal_short 2 r.errors (omega (arith, v.errors_fit)) in
    let size = decimal_short 7 r.length (omega (arith, fits 2)) in
    let parent = decimal_short 9 r.parent (omega (arith, fits 12)) in
    simp length-append (omega (arith, decimal_most r.value))

pub records_short : (rs : List Record) → AllFit rs → Every Valued rs → length (lines_text (record_lines rs)) ≤ length rs * 75
records_short [] f v = omega arith
records_short (r ∷ rs) f v =
    rw (length-append (line (record_line r))) (omega (arith, record_short r f.0 v.0, records_short rs f.1 v.1))

pub first_short : (c : Counts) → c.length < 256 ^ 3 → c.records ≤ 1024 → length (line (first_line c)) ≤ 75
first_short c long few =
    let size = decimal_short 7 c.length (omega arith) in
    let records = decimal_short 3 c.records (omega arith) in
    simp length-append (omega (arith, decimal_most c.errors, decimal_most c.tried))

pub refusal_short : (why : Refusal) → length (refusal_text why) ≤ 75
refusal_short why = simp length-append (omega (arith, decimal_most (number_of why), decimal_most (amount_of why)))
