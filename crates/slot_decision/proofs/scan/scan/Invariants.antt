-- `slot_decision::scan::scan` meets its contract: indices count from 0, and what is known of the links behind those that are left is what they
-- give. Assumes nothing.
use mathlib.Core.Path.{◌≡◌}
use Rattle.slot_spec.proofs.Scanned.{Passed}
use Rattle.slot_decision.proofs.scan.scan.Given as goal

abbrev pub invariant-loop-i : goal.invariant-loop-i
invariant-loop-i l = record { first : l.i-iterator.iter.count ≡ 0; passed : Passed l.links l.fn.start l.i-iterator.iter.iter.rest.now l.seen }
