-- `ack_write::frame::put_mac_header` meets its contract. Assumes nothing.
use Rattle.ack_write.proofs.FrameLaws.{header_put}
use borrow.Author.Rules.{rules}
use Rattle.ack_write.proofs.frame.put_mac_header.Goals as goal

pub returns : goal.returns
returns c = header_put _ _ _ _ _ _ _ _ c.put_addresses.ensures c.put_le-2.ensures.buffer c.put_le.ensures.buffer (search rules) (search rules) (search rules) (search rules)
