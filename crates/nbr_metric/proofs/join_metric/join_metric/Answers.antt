-- `nbr_metric::join_metric::join_metric` meets its contract. Assumes nothing.
use Rattle.nbr_metric_spec.proofs.JoinLaws.{joinWays}
use borrow.Author.Rules.{rules}
use Rattle.nbr_metric.proofs.join_metric.join_metric.Goals as goal

pub returns-then-rank-lt-MINIMUM_RANK : goal.returns-then-rank-lt-MINIMUM_RANK
returns-then-rank-lt-MINIMUM_RANK c = search (rules, joinWays)

pub returns : goal.returns
returns c = search (rules, joinWays)
