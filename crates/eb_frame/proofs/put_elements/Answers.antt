-- `eb_frame::put_elements` meets its contract. Assumes nothing.
use Rattle.eb_frame.proofs.FramingLaws.{elements_put}
use Rattle.eb_frame.proofs.put_elements.Goals as goal

pub returns : goal.returns
returns c = elements_put _ _ _ _ _ c.args.beacon _ c.before_joining-size.ensures.0 c.put_le.ensures.buffer c.put_group.ensures c.put_joining.ensures
