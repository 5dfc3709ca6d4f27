-- `ack_write::frame::put_correction` meets its contract. Assumes nothing.
use Rattle.ack_write.proofs.FrameLaws.{correction_put}
use borrow.Author.Rules.{rules}
use Rattle.ack_write.proofs.frame.put_correction.Goals as goal

pub returns : goal.returns
returns c = search (rules, correction_put)
