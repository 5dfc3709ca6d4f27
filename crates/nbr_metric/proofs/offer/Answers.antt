-- `nbr_metric::offer` meets its contract. Assumes nothing.
use Rattle.nbr_metric_spec.proofs.MetricLaws.{costWays}
use borrow.Author.Rules.{rules}
use Rattle.nbr_metric.proofs.offer.Goals as goal

pub returns-then-not-place : goal.returns-then-not-place
returns-then-not-place c = search (rules, costWays)

pub returns-then-from-lt-MINIMUM_RANK : goal.returns-then-from-lt-MINIMUM_RANK
returns-then-from-lt-MINIMUM_RANK c = search (rules, costWays)

pub returns-then-from : goal.returns-then-from
returns-then-from c = search (rules, costWays)

pub returns-then-cost-le-HIGHEST_RANK : goal.returns-then-cost-le-HIGHEST_RANK
returns-then-cost-le-HIGHEST_RANK c = search (rules, costWays)

pub returns : goal.returns
returns c = search (rules, costWays)
