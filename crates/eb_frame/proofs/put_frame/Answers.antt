-- `eb_frame::put_frame` meets its contract. Assumes nothing.
use Rattle.eb_frame.proofs.FramingLaws.{frame_put}
use Rattle.eb_frame.proofs.put_frame.Goals as goal

pub returns : goal.returns
returns c = frame_put _ _ _ _ _ _ c.sequence_size.ensures.0 c.address_size.ensures.0 c.put_mac_header.ensures c.put_elements.ensures
