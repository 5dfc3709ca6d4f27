-- `nbr_metric::path_cost` meets its contract. Assumes nothing.
use Rattle.nbr_metric_spec.proofs.MetricLaws.{costWays}
use borrow.Author.Rules.{rules}
use Rattle.nbr_metric.proofs.path_cost.Goals as goal

pub returns : goal.returns
returns c = search (rules, costWays)
