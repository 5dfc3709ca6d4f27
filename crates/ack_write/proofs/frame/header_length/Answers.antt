-- `ack_write::frame::header_length` meets its contract. Assumes nothing.
use Rattle.ack_write.proofs.FrameLaws.{header_long}
use borrow.Author.Rules.{rules}
use Rattle.ack_write.proofs.frame.header_length.Goals as goal

pub returns : goal.returns
returns c = (search (rules, header_long), search rules)
