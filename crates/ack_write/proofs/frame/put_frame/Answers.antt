-- `ack_write::frame::put_frame` meets its contract. Assumes nothing.
use Rattle.ack_write.proofs.FrameLaws.{frame_put}
use borrow.Author.Rules.{rules}
use Rattle.ack_write.proofs.frame.put_frame.Goals as goal

pub returns : goal.returns
returns c = search (rules, frame_put)
