-- `ie_walk::header_list::header_list` meets its contract. Assumes nothing.
use Prim.Native.Nat.{◌-◌}
use Rattle.ie_walk_spec.proofs.ListLaws.{HeaderLeads}
use Rattle.ie_walk.proofs.header_list.header_list.Given as goal

abbrev pub invariant-loop-list : goal.invariant-loop-list
invariant-loop-list l = HeaderLeads l.s l.at l.end l.i l.skipped

abbrev pub decreases-loop-list : goal.decreases-loop-list
decreases-loop-list l = l.end - l.i
