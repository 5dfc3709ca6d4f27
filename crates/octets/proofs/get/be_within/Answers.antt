-- `octets::get::be_within` meets its contract. Assumes nothing.
use borrow.Author.Rules.{rules}
use Rattle.octets_spec.proofs.NumberLaws.{be_begins, be_turn, be_times, be_plus, be_ends}
use Rattle.octets.proofs.get.be_within.Goals as goal

pub loop-i-init : goal.loop-i-init
loop-i-init c = search (rules, be_begins)

pub loop-i-preserved : goal.loop-i-preserved
loop-i-preserved c = be_turn _ _ _ _ c.loop-i.invariant _ (rw c.from.ensures at c.byte.ensures.0) c.byte.ensures.1

pub returns : goal.returns
returns c = search (rules, be_ends)

pub overflow_mul-number : goal.overflow_mul-number
overflow_mul-number c = search (rules, be_times)

pub overflow_add-number : goal.overflow_add-number
overflow_add-number c = search (rules, be_plus)
