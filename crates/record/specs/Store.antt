-- What lent memory holds after an answer: a store for records (docs/FORMAT.md, 6.3), and how many it has room for; an output for bytes (8.2).
use Rattle.std.specs.Prelude.{ℕ, ◌-◌, ◌/◌, cond, List, ◌++◌, length, replicate, leb}
use Rattle.std.proofs.lemmas.List.Edits.{sets}
use Rattle.octets.specs.Octets.{octets, over, put_all}
use Rattle.refusal.specs.Answer.{Answer, accepted, refused}
use Rattle.record.specs.Record.{Record, record_size, record_bytes, laid}

-- how many records a store of n bytes has room for
abbrev pub capacity : ℕ → ℕ
capacity n = n / record_size

-- and how many this one has
abbrev pub room : List ℕ → ℕ
room store = capacity (length store)

-- a record over the front of a store that has room for it; one that has none stays as lent
abbrev pub put : Record → List ℕ → List ℕ
put r store = put_all (record_bytes r) store

-- kind, error flags and value at their places in the record at the front, where there is room for one
unfoldable pub put_found : ℕ → ℕ → ℕ → List ℕ → List ℕ
put_found kind errors value store =
    cond (leb record_size (length store)) (sets (sets (sets store 17 (octets 1 kind)) 18 (octets 1 errors)) 24 (octets 8 value)) store

-- another place and another parent in the record at the front, where there is one
unfoldable pub put_place_and_parent : ℕ → ℕ → List ℕ → List ℕ
put_place_and_parent place parent table =
    cond (leb record_size (length table)) (sets (sets table 12 (octets 4 place)) 32 (octets 4 parent)) table

-- the records and zero to its last byte where they were accepted, and as lent where not
unfoldable pub stored : {A : Type 0} → Answer A → List Record → List ℕ → List ℕ
stored (accepted x) rs store = laid rs ++ replicate (length store - length (laid rs)) 0
stored (refused why) rs store = store

-- the output afterwards: past what was written, and where it was refused, as lent
unfoldable pub output : Answer ℕ → List ℕ → List ℕ → List ℕ
output (accepted total) bytes out = over bytes out
output (refused why) bytes out = out
