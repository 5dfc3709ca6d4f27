-- `nbr_calls::report::attempted` meets its contract. Assumes nothing.
use Rattle.nbr_table_spec.proofs.StoreLaws.{reportWays}
use borrow.Author.Rules.{rules}
use Rattle.nbr_calls.proofs.report.attempted.Goals as goal

pub returns-then-sent-attempts-gt-MOST_COUNTED : goal.returns-then-sent-attempts-gt-MOST_COUNTED
returns-then-sent-attempts-gt-MOST_COUNTED c = search (rules, reportWays)

pub returns : goal.returns
returns c = search (rules, reportWays)
