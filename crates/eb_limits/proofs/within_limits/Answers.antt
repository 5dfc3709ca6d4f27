-- `eb_limits::within_limits` meets its contract. Assumes nothing.
use Rattle.eb_limits.proofs.LimitLaws.{within_is}
use borrow.Author.Rules.{rules}
use Rattle.eb_limits.proofs.within_limits.Goals as goal

pub returns : goal.returns
returns c = within_is _ _ _ _ _ _ _ (search rules) (search rules) c.sequence_fits.ensures c.address_fits.ensures c.synchronization_fits.ensures c.template_fits.ensures c.slotframe_fits.ensures c.joining_fits.ensures
