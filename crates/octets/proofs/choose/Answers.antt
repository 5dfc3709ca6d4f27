-- `octets::choose` meets its contract. Assumes nothing.
use Rattle.octets_spec.proofs.ChoiceLaws.{choices}
use borrow.Author.Rules.{rules}
use Rattle.octets.proofs.choose.Goals as goal

-- `octets::choose` meets its contract. Assumes nothing.
pub returns-then-value-wanted : goal.returns-then-value-wanted
returns-then-value-wanted c = search (rules, choices)

pub returns : goal.returns
returns c = search (rules, choices)
