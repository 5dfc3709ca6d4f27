-- `eb_frame::put_joining_start` meets its contract. Assumes nothing.
use Rattle.eb_frame.proofs.JoiningLaws.{joining_starts}
use Rattle.eb_frame.proofs.put_joining_start.Goals as goal

pub returns : goal.returns
returns c = joining_starts _ _ _ _ _ _ _ c.joining_size.ensures.0 c.joining_size.ensures.1 c.joining_word.ensures c.put_le.ensures.buffer c.put_be.ensures.buffer
