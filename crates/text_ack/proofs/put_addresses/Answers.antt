-- `text_ack::put_addresses` meets its contract. Assumes nothing.
use Rattle.text_ack_spec.proofs.AckLineLaws.{ackLines}
use borrow.Author.Rules.{rules}
use Rattle.text_ack.proofs.put_addresses.Goals as goal

pub returns : goal.returns
returns c = search (rules, ackLines)
