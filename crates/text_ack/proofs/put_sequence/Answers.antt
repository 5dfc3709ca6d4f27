-- `text_ack::put_sequence` meets its contract. Assumes nothing.
use Rattle.text_ack_spec.proofs.AckLineLaws.{ackLines}
use borrow.Author.Rules.{rules}
use Rattle.text_ack.proofs.put_sequence.Goals as goal

pub returns-in-Absent : goal.returns-in-Absent
returns-in-Absent c = search (rules, ackLines)

pub returns-in-Number : goal.returns-in-Number
returns-in-Number c = search (rules, ackLines)
