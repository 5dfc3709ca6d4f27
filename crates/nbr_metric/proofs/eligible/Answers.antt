-- `nbr_metric::eligible` meets its contract. Assumes nothing.
use Rattle.nbr_metric_spec.proofs.MetricLaws.{costWays, fresh_neighbour, unanswered_is_not}
use borrow.Author.Rules.{rules}
use Rattle.nbr_metric.proofs.eligible.Goals as goal

pub returns : goal.returns
returns c = search (rules, costWays, fresh_neighbour, unanswered_is_not)
