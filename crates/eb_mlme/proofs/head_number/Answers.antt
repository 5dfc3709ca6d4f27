-- `eb_mlme::head_number` meets its contract. Assumes nothing.
use Rattle.eb_mlme.proofs.SlotframeLaws.{head_number}
use borrow.Author.Rules.{rules}
use Rattle.eb_mlme.proofs.head_number.Goals as goal

pub returns : goal.returns
returns c = head_number _ _ _ (search rules) (search rules)
