-- `ack_read::correction::find` meets its contract. Assumes nothing.
use Rattle.ack_read_spec.proofs.FoundLaws.{founds}
use Rattle.std.proofs.lemmas.Result.{err_from_is_err_and}
use borrow.Author.Rules.{rules}
use Rattle.ack_read.proofs.correction.find.Goals as goal

pub loop-id-init : goal.loop-id-init
loop-id-init c = search (rules, founds)

pub returns-in-End : goal.returns-in-End
returns-in-End c = search (rules, founds)

pub element_fault-requires-clause-started : goal.element_fault-requires-clause-started
element_fault-requires-clause-started c = search (rules, founds)

pub returns-in_err-element_fault-in-Element : goal.returns-in_err-element_fault-in-Element
returns-in_err-element_fault-in-Element c = let p = err_from_is_err_and c.from_residual.result c.from_residual.ensures.1 in rw (p.1, p.2) (search (rules, founds, c.in_err-element_fault-in-Element.ensures))

pub loop-id-preserved-then-id-eq-CORRECTION : goal.loop-id-preserved-then-id-eq-CORRECTION
loop-id-preserved-then-id-eq-CORRECTION c = search (rules, founds)

pub loop-id-preserved : goal.loop-id-preserved
loop-id-preserved c = search (rules, founds)

pub returns-in-Fault : goal.returns-in-Fault
returns-in-Fault c = search (rules, founds)
