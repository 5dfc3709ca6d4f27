-- `ack_write::frame::control_word` meets its contract. Assumes nothing.
use Rattle.ack_write.proofs.FrameLaws.{control_is}
use borrow.Author.Rules.{rules}
use Rattle.ack_write.proofs.frame.control_word.Goals as goal

pub returns : goal.returns
returns c = (search (rules, control_is), search rules)
