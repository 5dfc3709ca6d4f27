-- `octets::put::put_le_within` meets its contract. Assumes nothing.
use Rattle.octets_spec.proofs.PutLaws.{le_start, le_next, le_end}
use borrow.Author.Rules.{rules}
use Rattle.octets.proofs.put.put_le_within.Goals as goal

pub loop-i-init : goal.loop-i-init
loop-i-init c = search (rules, le_start, le_next, le_end)

pub loop-i-preserved : goal.loop-i-preserved
loop-i-preserved c = (search rules, search rules, le_next _ _ _ _ _ _ _ c.loop-i-test.true (rw c.from.ensures) c.loop-i.invariant.2)

pub returns : goal.returns
returns c = search (rules, le_end)
