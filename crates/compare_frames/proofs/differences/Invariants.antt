-- `compare_frames::differences` meets its contract: the list is that of the fields so far. Assumes nothing.
use mathlib.Core.Path.{◌≡◌}
use Rattle.compare_spec.specs.Compare.{list_of, list_in}
use Rattle.compare_frames.specs.UpTo.{up_to}
use Rattle.compare_frames.proofs.differences.Given as goal

abbrev pub invariant-loop-place : goal.invariant-loop-place
invariant-loop-place l = list_in l.found ≡ list_of (up_to l.one l.other l.place)
