-- `eb_mlme::put_group_rest` meets its contract. Assumes nothing.
use Rattle.eb_mlme.proofs.GroupLaws.{rest_put}
use Rattle.eb_mlme.proofs.put_group_rest.Goals as goal

pub returns : goal.returns
returns c = rest_put _ _ _ _ _ _ c.put_le.ensures.buffer c.put_slotframe.ensures
