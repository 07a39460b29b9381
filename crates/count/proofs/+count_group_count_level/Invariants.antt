-- A run is the AVPs passed so far and what is left: the sums are those of the AVPs passed, none of which tries a header too deep.
-- The measure is two for each level left, and one more for a run or two for a group: it falls from a run to its groups, which have a
-- level less, and from a group to its run.
use Prim.Native.Nat.{◌+◌, ◌*◌}
use lib.ListN.{length}
use Rattle.octets.specs.Run.{tree}
use Rattle.rfc6733.specs.Records.{avps}
use Rattle.attribute.specs.ByTable.{dictionary_of}
use Rattle.count.proofs.Levels.{Passed}
use Rattle.count.proofs.+count_group_count_level.Given as goal

abbrev pub decreases-count_group : goal.decreases-count_group
decreases-count_group l = 2 * l.left + 2

abbrev pub decreases-count_level : goal.decreases-count_level
decreases-count_level l = 2 * l.left + 1

abbrev pub invariant-count_level-loop-rest : goal.invariant-count_level-loop-rest
invariant-count_level-loop-rest l =
    let D = dictionary_of l.d in Passed l.left (tree (avps D) l.s) (tree (avps D) l.rest) l.records l.tried

abbrev pub decreases-count_level-loop-rest : goal.decreases-count_level-loop-rest
decreases-count_level-loop-rest l = length l.rest
