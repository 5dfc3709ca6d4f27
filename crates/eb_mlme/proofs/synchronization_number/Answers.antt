-- `eb_mlme::synchronization_number` meets its contract. Assumes nothing.
use Rattle.eb_mlme.proofs.GroupLaws.{synchronization_number}
use Rattle.eb_mlme.proofs.synchronization_number.Goals as goal

pub returns : goal.returns
returns c = synchronization_number _
