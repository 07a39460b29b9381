-- What falls from call to call: the levels left, when a group is entered, and within a level the order of the calls. A run's records are
-- those of its AVPs so far, one after the other and all with the same parent.
use Prim.Native.Nat.{◌+◌, ◌-◌, ◌*◌, ◌≤◌}
use lib.ListN.{length, drop}
use Rattle.octets.specs.Run.{tree}
use Rattle.rfc6733.specs.Records.{avps}
use Rattle.attribute.specs.ByTable.{dictionary_of}
use Rattle.avps.specs.Fill.{depth_at}
use Rattle.avps.proofs.Filling.{Filling}
use Rattle.avps.proofs.fill.+read_avp_read_run_read_value.Given as goal

abbrev pub decreases-read_run : goal.decreases-read_run
decreases-read_run l = 3 * l.left + 2

abbrev pub decreases-read_avp : goal.decreases-read_avp
decreases-read_avp l = 3 * l.left + 1

abbrev pub decreases-read_value : goal.decreases-read_value
decreases-read_value l = 3 * l.left

abbrev pub invariant-read_run-loop-at : goal.invariant-read_run-loop-at
invariant-read_run-loop-at l =
    let D = dictionary_of l.d in
    (l.at ≤ length l.s)
    × Filling D (tree (avps D) l.s) (tree (avps D) (drop l.at l.s)) l.place (l.place + l.at) (depth_at l.left) l.parent l.first l.n l.errors l.initial.store l.store

abbrev pub decreases-read_run-loop-at : goal.decreases-read_run-loop-at
decreases-read_run-loop-at l = length l.s - l.at
