-- `nbr_parent::settle` meets its contract. Assumes nothing.
use Rattle.nbr_table_spec.proofs.OfferLaws.{settleWays}
use borrow.Author.Rules.{rules}
use Rattle.nbr_parent.proofs.settle.Goals as goal

pub returns-then-best-cost : goal.returns-then-best-cost
returns-then-best-cost c = search (rules, settleWays)

pub returns-then-cost-lt-NO_OFFER : goal.returns-then-cost-lt-NO_OFFER
returns-then-cost-lt-NO_OFFER c = search (rules, settleWays)

pub returns-then-best-lt-NO_OFFER : goal.returns-then-best-lt-NO_OFFER
returns-then-best-lt-NO_OFFER c = search (rules, settleWays)

pub returns : goal.returns
returns c = search (rules, settleWays)
