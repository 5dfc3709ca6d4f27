-- What `text_put::Line::octets` keeps. Assumes nothing.
use Prim.Native.Nat.{◌*◌}
use lib.ListN.{take}
use Rattle.text_put_spec.specs.Text.{hex_octets}
use Rattle.text_put.specs.Puts.{Puts}
use Rattle.text_put.proofs.Line.octets.Given as goal

-- the octets so far were put
abbrev pub invariant-loop-value : goal.invariant-loop-value
invariant-loop-value l = Puts (2 * l.value-index) l.initial.self (hex_octets (take l.value-index l.values)) l.self
