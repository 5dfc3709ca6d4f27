-- `eb_decode::elements::network_within` meets its contract. Assumes nothing.
use Rattle.eb_decode.proofs.ElementLaws.{network_padded}
use borrow.Author.Rules.{rules}
use Rattle.eb_decode.proofs.elements.network_within.Goals as goal

pub returns : goal.returns
returns c = network_padded _ _ _ _ _ (search rules) (search rules) c.copy_from_slice.ensures.after
