-- `octets::get::le` meets its contract. Assumes nothing.
use Rattle.octets_spec.proofs.NumberLaws.{le_past, positive}
use borrow.Author.Rules.{rules}
use Rattle.octets.proofs.get.le.Goals as goal

-- `octets::get::le` meets its contract. Assumes nothing.
pub returns-then-s-at : goal.returns-then-s-at
returns-then-s-at c = (le_past _ _ _ (search rules), positive _)

pub returns : goal.returns
returns c = rw c.min.ensures at c.le_within.ensures
