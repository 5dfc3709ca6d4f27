-- The loop of `octets::get::be_within`: what was read so far. Assumes nothing.
use Rattle.octets_spec.specs.Number.{be_at}
use Rattle.octets_spec.proofs.NumberLaws.{Read}
use Rattle.octets.proofs.get.be_within.Given as goal

abbrev pub invariant-loop-i : goal.invariant-loop-i
invariant-loop-i l = Read (be_at l.i l.s l.at) l.i l.number
