-- `eb_mlme::put_group_start` meets its contract. Assumes nothing.
use Rattle.eb_mlme.proofs.GroupLaws.{group_starts}
use Rattle.eb_mlme.proofs.put_group_start.Goals as goal

pub returns : goal.returns
returns c = group_starts _ _ _ _ _ _ _ _ _ _ c.group_size.ensures.0 c.synchronization_number.ensures c.put_le.ensures.buffer c.put_le-2.ensures.buffer c.put_template.ensures
