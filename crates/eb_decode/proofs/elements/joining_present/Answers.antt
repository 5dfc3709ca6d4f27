-- `eb_decode::elements::joining_present` meets its contract. Assumes nothing.
use Rattle.eb_decode.proofs.ElementLaws.{elements}
use borrow.Author.Rules.{rules}
use Rattle.eb_decode.proofs.elements.joining_present.Goals as goal

pub returns : goal.returns
returns c = search (rules, elements)
