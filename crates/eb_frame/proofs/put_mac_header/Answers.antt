-- `eb_frame::put_mac_header` meets its contract. Assumes nothing.
use Rattle.eb_frame.proofs.MacHeaderLaws.{mac_header_put}
use borrow.Author.Rules.{rules}
use Rattle.eb_frame.proofs.put_mac_header.Goals as goal

pub returns : goal.returns
returns c = mac_header_put _ _ _ _ _ _ _ _ _ _ _ _ c.put_le-3.ensures.buffer c.put_le-2.ensures.buffer c.put_le.ensures.buffer
    (search rules) (search rules) (search rules) (search rules) (search rules) (search rules) (search rules)
