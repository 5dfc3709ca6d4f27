-- The measures and loops of `ie_walk::payload_list::group` and `ie_walk::payload_list::outer`, which call each other. The bytes that remain
-- fall: the measures count them twice, with one more for a group, since going back to the list at a group's end takes no byte.
use Rattle.std.proofs.Common.{◌+◌, ◌-◌, ◌*◌}
use Rattle.ie_walk_spec.proofs.ListLaws.{OuterLeads, GroupLeads}
use Rattle.ie_walk.proofs.payload_list.+group_outer.Given as goal

abbrev pub decreases-group : goal.decreases-group
decreases-group l = 2 * (l.to - l.at) + 1

abbrev pub decreases-outer : goal.decreases-outer
decreases-outer l = 2 * (l.end - l.at)

abbrev pub invariant-group-loop-kind : goal.invariant-group-loop-kind
invariant-group-loop-kind l = GroupLeads l.s l.at l.to l.end l.initial.noted l.i l.noted

abbrev pub decreases-group-loop-kind : goal.decreases-group-loop-kind
decreases-group-loop-kind l = l.to - l.i

abbrev pub invariant-outer-loop-noted : goal.invariant-outer-loop-noted
invariant-outer-loop-noted l = OuterLeads l.s l.at l.end l.initial.noted l.i l.noted

abbrev pub decreases-outer-loop-noted : goal.decreases-outer-loop-noted
decreases-outer-loop-noted l = l.end - l.i
