-- `text_ack::put_line` meets its contract. Assumes nothing.
use Rattle.text_ack_spec.proofs.AckLineLaws.{ackLines}
use borrow.Author.Rules.{rules}
use Rattle.text_ack.proofs.put_line.Goals as goal

pub returns-in-Ok : goal.returns-in-Ok
returns-in-Ok c = search (rules, ackLines)

pub returns-in-Err : goal.returns-in-Err
returns-in-Err c = search (rules, ackLines)
