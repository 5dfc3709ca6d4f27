-- `text_ack::put_acknowledged` meets its contract. Assumes nothing.
use Rattle.text_ack_spec.proofs.AckLineLaws.{ackLines}
use borrow.Author.Rules.{rules}
use Rattle.text_ack.proofs.put_acknowledged.Goals as goal

pub returns-then-nack : goal.returns-then-nack
returns-then-nack c = search (rules, ackLines)

pub returns-else-nack : goal.returns-else-nack
returns-else-nack c = search (rules, ackLines)
