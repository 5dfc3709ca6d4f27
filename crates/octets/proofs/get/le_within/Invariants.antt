-- The loop of `octets::get::le_within`, from the last byte back: what was read so far. Assumes nothing.
use Rattle.std.proofs.Common.{◌+◌, ◌-◌}
use Rattle.octets_spec.specs.Number.{le_at}
use Rattle.octets_spec.proofs.NumberLaws.{Read}
use Rattle.octets.proofs.get.le_within.Given as goal

abbrev pub invariant-loop-i : goal.invariant-loop-i
invariant-loop-i l = Read (le_at (l.width - l.i) l.s (l.at + l.i)) (l.width - l.i) l.number
