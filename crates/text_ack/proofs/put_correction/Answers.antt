-- `text_ack::put_correction` meets its contract. Assumes nothing.
use Rattle.text_ack_spec.proofs.AckLineLaws.{ackLines}
use borrow.Author.Rules.{rules}
use Rattle.text_ack.proofs.put_correction.Goals as goal

pub returns : goal.returns
returns c = search (rules, ackLines)
