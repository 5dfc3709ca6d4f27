-- `ie_verdict::slotframe_fault::timeslots_fit` meets its contract. Assumes nothing.
use Prim.Native.Nat.{◌+◌, ◌-◌, ◌*◌}
use mathlib.Core.Path.{◌≡◌}
use Rattle.ie_verdict_spec.specs.Verdict.{timeslots_fit}
use Rattle.ie_verdict.proofs.slotframe_fault.timeslots_fit.Given as goal

abbrev pub invariant-loop-link : goal.invariant-loop-link
invariant-loop-link l = timeslots_fit l.s (l.at + 5 * l.link) (l.links - l.link) l.size ≡ timeslots_fit l.s l.at l.links l.size
