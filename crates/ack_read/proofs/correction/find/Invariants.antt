-- `ack_read::correction::find` meets its contract. Assumes nothing.
use Prim.Native.Nat.{◌-◌}
use Rattle.ack_read_spec.proofs.FoundLaws.{PlaceLeads}
use Rattle.ack_read.proofs.correction.find.Given as goal

abbrev pub invariant-loop-id : goal.invariant-loop-id
invariant-loop-id l = PlaceLeads l.s l.at l.end l.i l.content

abbrev pub decreases-loop-id : goal.decreases-loop-id
decreases-loop-id l = l.end - l.i
