-- `ie_walk::payload_list::group` and `ie_walk::payload_list::outer`, which call each other, meet their contracts. Assumes nothing.
use Rattle.std.proofs.Common.{rules}
use Rattle.ie_walk_spec.proofs.ListLaws.{lists}
use Rattle.ie_walk.proofs.payload_list.+group_outer.Goals as goal

pub group-loop-kind-preserved : goal.group-loop-kind-preserved
group-loop-kind-preserved t c = search (rules, lists)

pub outer-loop-noted-preserved-in-Passed : goal.outer-loop-noted-preserved-in-Passed
outer-loop-noted-preserved-in-Passed t c = search (rules, lists)

pub outer-loop-noted-preserved-in-Joining : goal.outer-loop-noted-preserved-in-Joining
outer-loop-noted-preserved-in-Joining t c = search (rules, lists)

pub outer-loop-noted-preserved : goal.outer-loop-noted-preserved
outer-loop-noted-preserved t c = search (rules, lists)
