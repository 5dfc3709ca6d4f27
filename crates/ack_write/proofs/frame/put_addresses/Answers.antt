-- `ack_write::frame::put_addresses` meets its contract. Assumes nothing.
use Rattle.ack_write.proofs.FrameLaws.{addresses_put}
use borrow.Author.Rules.{rules}
use Rattle.ack_write.proofs.frame.put_addresses.Goals as goal

pub returns : goal.returns
returns c = search (rules, addresses_put)
