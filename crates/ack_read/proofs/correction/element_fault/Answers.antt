-- `ack_read::correction::element_fault` meets its contract. Assumes nothing.
use Rattle.ack_read_spec.proofs.FoundLaws.{element-faults}
use borrow.Author.Rules.{rules}
use Rattle.ack_read.proofs.correction.element_fault.Goals as goal

pub returns-then-id-ne-CORRECTION : goal.returns-then-id-ne-CORRECTION
returns-then-id-ne-CORRECTION c = search (rules, element-faults)

pub returns-then-to-from-ne2 : goal.returns-then-to-from-ne2
returns-then-to-from-ne2 c = search (rules, element-faults)

pub returns-then-is_some : goal.returns-then-is_some
returns-then-is_some c = search (rules, element-faults)

pub returns : goal.returns
returns c = search (rules, element-faults)
