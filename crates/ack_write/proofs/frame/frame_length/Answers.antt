-- `ack_write::frame::frame_length` meets its contract. Assumes nothing.
use Rattle.ack_write.proofs.FrameLaws.{frame_long}
use borrow.Author.Rules.{rules}
use Rattle.ack_write.proofs.frame.frame_length.Goals as goal

pub returns : goal.returns
returns c = (search (rules, frame_long), search rules)
