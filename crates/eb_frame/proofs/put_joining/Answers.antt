-- `eb_frame::put_joining` meets its contract. Assumes nothing.
use Rattle.eb_frame.proofs.JoiningLaws.{joining_put, joining_none}
use Rattle.eb_frame.proofs.put_joining.Goals as goal

pub returns-then-joining : goal.returns-then-joining
returns-then-joining c = joining_put _ _ _ _ _ c.if-joining.true c.put_joining_start.ensures c.put_joining_rest.ensures

pub returns-else-joining : goal.returns-else-joining
returns-else-joining c = joining_none _ _ _ c.if-joining.false
