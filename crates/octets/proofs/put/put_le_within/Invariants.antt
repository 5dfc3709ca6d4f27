-- `octets::put::put_le_within` meets its contract. Assumes nothing.
use Prim.Native.Nat.{◌+◌, ◌-◌, ◌≤◌}
use mathlib.Core.Path.{◌≡◌}
use lib.ListN.{length}
use Rattle.octets_spec.specs.Number.{le_bytes, stored}
use Rattle.octets.proofs.put.put_le_within.Given as goal

abbrev pub invariant-loop-i : goal.invariant-loop-i
invariant-loop-i l = (l.i ≤ l.width) × (length l.buffer ≡ length l.initial.buffer) × (stored l.buffer (l.at + l.i) (le_bytes (l.width - l.i) l.rest) ≡ stored l.initial.buffer l.at (le_bytes l.width l.number))
