-- `eb_frame::put_network` meets its contract. Assumes nothing.
use mathlib.Core.Path.{◌≡◌}
use lib.ListN.{take}
use Rattle.octets_spec.specs.Number.{stored}
use Rattle.eb_frame.proofs.put_network.Given as goal

abbrev pub invariant-loop-i : goal.invariant-loop-i
invariant-loop-i l = l.buffer ≡ stored l.initial.buffer l.at (take l.i l.used)
