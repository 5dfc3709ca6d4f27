-- `octets::put::put_be` meets its contract. Assumes nothing.
use Prim.Native.Nat.{◌+◌, ◌-◌, ◌/◌, ◌^◌, ◌≤◌}
use mathlib.Core.Path.{◌≡◌}
use lib.ListN.{length}
use Rattle.octets_spec.specs.Number.{be_bytes, stored}
use Rattle.octets.proofs.put.put_be.Given as goal

abbrev pub invariant-loop-i : goal.invariant-loop-i
invariant-loop-i l = (l.i ≤ l.width) × (length l.buffer ≡ length l.initial.buffer) × (l.high ≡ l.number / 256 ^ (l.width - l.i)) × (l.buffer ≡ stored l.initial.buffer (l.at + l.i) (be_bytes (l.width - l.i) l.number))
