-- `eb_mlme::link_number` meets its contract. Assumes nothing.
use Rattle.eb_mlme.proofs.SlotframeLaws.{link_number_lem}
use borrow.Author.Rules.{rules}
use Rattle.eb_mlme.proofs.link_number.Goals as goal

pub returns : goal.returns
returns c = link_number_lem _ (search rules) (search rules)
