-- `eb_limits::all` meets its contract. Assumes nothing.
use lib.ListN.{take}
use Rattle.eb_limits.specs.Tested.{TestedBy}
use Rattle.eb_limits.proofs.all.Given as goal

abbrev pub invariant-loop-item : goal.invariant-loop-item
invariant-loop-item g l = goal.F-IsAlwaysCallable g l.test × TestedBy (goal.F-post g l.test) (take l.item-index l.items) l.ok
