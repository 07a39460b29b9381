-- The parents of a run's records by its AVPs: a member has the index of its group. The contracts of the readers say it so;
-- `proofs/Groups` shows that these are the parents that the depths tell.
use Rattle.std.specs.Prelude.{ℕ, ◌+◌, cond, List, [], ◌∷◌, ◌++◌}
use Rattle.octets.specs.Run.{Tree, done, broken, plain, group, tiles}
use Rattle.record.specs.Record.{Record}
use Rattle.record.specs.Parents.{with_parents}
use Rattle.rfc6733.specs.Dictionary.{Dictionary}
use Rattle.rfc6733.specs.Records.{records, record_count}

-- of a run that stands in the group of the record `parent`, and whose first record has the index `first`
abbrev pub groups : ℕ → ℕ → Tree → List ℕ
groups parent first done = []
groups parent first broken = []
groups parent first (plain a rest) = parent ∷ groups parent (first + 1) rest
groups parent first (group a inner rest) =
    parent
    ∷ (cond (tiles inner) (groups first (first + 1) inner) []
    ++ groups parent (first + 1 + cond (tiles inner) (record_count inner) 0) rest)

-- the records of such a run
abbrev pub member_records : Dictionary → ℕ → ℕ → ℕ → ℕ → Tree → List Record
member_records D place depth parent first t = with_parents (groups parent first t) (records D place depth t)
