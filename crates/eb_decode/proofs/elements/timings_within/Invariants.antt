-- `eb_decode::elements::timings_within` meets its contract. Assumes nothing.
use Prim.Native.Nat.{◌+◌}
use mir.Val.{bool_byte}
use mathlib.Core.Path.{◌≡◌}
use Rattle.octets_spec.proofs.CountedLaws.{filled}
use Rattle.eb_read_spec.specs.Decode.{timing_at}
use Rattle.eb_decode.proofs.elements.timings_within.Given as goal

abbrev pub invariant-loop-k : goal.invariant-loop-k
invariant-loop-k l = l.entry-items ≡ filled (timing_at l.s l.at (2 + bool_byte l.wide)) 0 12 l.k
