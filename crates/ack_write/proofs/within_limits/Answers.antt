-- `ack_write::within_limits` meets its contract. Assumes nothing.
use Rattle.ack_write.proofs.FrameLaws.{fits_is}
use borrow.Author.Rules.{rules}
use Rattle.ack_write.proofs.within_limits.Goals as goal

pub returns : goal.returns
returns c = search (rules, fits_is)
