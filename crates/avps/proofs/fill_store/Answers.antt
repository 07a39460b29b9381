-- `fill_store` meets its contract: the run is read, and what its records leave of the store is cleared, so the store holds the records and zero
-- to its last byte. The first of them is the first of all, so their parents are those that their depths tell.
use native.Mathlib.Omega.{arith}
use Rattle.octets.specs.Run.{tree}
use Rattle.record.proofs.Cleared.{cleared}
use Rattle.record.specs.Record.{laid}
use Rattle.record.specs.Parents.{top_level}
use Rattle.rfc6733.specs.Records.{avps}
use Rattle.rfc6733.specs.Groups.{member_records}
use Rattle.rfc6733.proofs.Groups.{parented_members}
use Rattle.attribute.specs.ByTable.{dictionary_of}
use Rattle.avps.proofs.Filling.{records_length}
use Rattle.avps.proofs.fill_store.Goals as goal

pub returns : goal.returns
returns c =
    let D = dictionary_of c.args.d in
    let t = tree (avps D) c.args.s.now in
    let w = c.read_run-ran.ensures in
    let size = records_length D c.args.place 1 top_level 0 t in
    let room = c.requires.room in
    record {
      errors_are = w.errors_are;
      store_is =
          rw (parented_members D c.args.place t)
          (cleared (laid (member_records D c.args.place 1 top_level 0 t)) c.args.store.now _ _ _ (omega arith) (omega arith) w.store_is c.clear.ensures);
    }
