-- `text_ack::put_kind` meets its contract. Assumes nothing.
use Rattle.text_ack_spec.proofs.AckLineLaws.{ackLines}
use borrow.Author.Rules.{rules}
use Rattle.text_ack.proofs.put_kind.Goals as goal

pub returns-in-Short : goal.returns-in-Short
returns-in-Short c = search (rules, ackLines)

pub returns-in-Extended : goal.returns-in-Extended
returns-in-Extended c = search (rules, ackLines)
