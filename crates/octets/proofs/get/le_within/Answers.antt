-- `octets::get::le_within` meets its contract. Assumes nothing.
use borrow.Author.Rules.{rules}
use Rattle.octets_spec.proofs.NumberLaws.{le_begins, le_turn, le_times, le_plus, le_ends}
use Rattle.octets.proofs.get.le_within.Goals as goal

pub loop-i-init : goal.loop-i-init
loop-i-init c = search (rules, le_begins)

pub loop-i-preserved : goal.loop-i-preserved
loop-i-preserved c = le_turn _ _ _ _ _ c.loop-i.invariant (search rules) (search rules) _ (rw c.from.ensures at c.byte.ensures.0) c.byte.ensures.1

pub returns : goal.returns
returns c = search (rules, le_ends)

pub overflow_mul-number : goal.overflow_mul-number
overflow_mul-number c = search (rules, le_times)

pub overflow_add-number : goal.overflow_add-number
overflow_add-number c = search (rules, le_plus)
