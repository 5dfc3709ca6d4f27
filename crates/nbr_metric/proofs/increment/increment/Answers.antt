-- `nbr_metric::increment::increment` meets its contract. Assumes nothing.
use Rattle.std.proofs.Common.{rules}
use Rattle.nbr_metric_spec.proofs.MetricLaws.{increment_is_ceiling, increment_of_none, incrementWays, is_increment}
use Rattle.nbr_metric.proofs.increment.increment.Goals as goal

pub returns-then-attempts-eq0-clause-answer : goal.returns-then-attempts-eq0-clause-answer
returns-then-attempts-eq0-clause-answer c = search (rules, incrementWays)

pub returns-then-attempts-eq0-clause-ceiling : goal.returns-then-attempts-eq0-clause-ceiling
returns-then-attempts-eq0-clause-ceiling c = increment_is_ceiling

pub returns-then-attempts-eq0-clause-none : goal.returns-then-attempts-eq0-clause-none
returns-then-attempts-eq0-clause-none c = increment_of_none

pub returns-then-acked-eq0-clause-answer : goal.returns-then-acked-eq0-clause-answer
returns-then-acked-eq0-clause-answer c = search (rules, incrementWays)

pub returns-then-acked-eq0-clause-ceiling : goal.returns-then-acked-eq0-clause-ceiling
returns-then-acked-eq0-clause-ceiling c = increment_is_ceiling

pub returns-then-acked-eq0-clause-none : goal.returns-then-acked-eq0-clause-none
returns-then-acked-eq0-clause-none c = increment_of_none

pub returns-clause-answer : goal.returns-clause-answer
returns-clause-answer c = search (rules, incrementWays)

pub returns-clause-smallest : goal.returns-clause-smallest
returns-clause-smallest c = search (rules, is_increment, incrementWays)

pub returns-clause-ceiling : goal.returns-clause-ceiling
returns-clause-ceiling c = increment_is_ceiling

pub returns-clause-none : goal.returns-clause-none
returns-clause-none c = increment_of_none
