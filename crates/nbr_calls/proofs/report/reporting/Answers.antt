-- `nbr_calls::report::reporting` meets its contract. Assumes nothing.
use Rattle.nbr_table_spec.proofs.StoreLaws.{reportWays}
use Rattle.std.proofs.lemmas.Result.{err_from_is_err_and}
use borrow.Author.Rules.{rules}
use Rattle.nbr_calls.proofs.report.reporting.Goals as goal

pub returns-then-attempts-lt1-clause-change : goal.returns-then-attempts-lt1-clause-change
returns-then-attempts-lt1-clause-change c = search (rules, reportWays)

pub returns-in_err-at-clause-change : goal.returns-in_err-at-clause-change
returns-in_err-at-clause-change c = let p = err_from_is_err_and c.from_residual.result c.from_residual.ensures.1 in rw (p.1, p.2) (search (rules, reportWays))

pub returns-then-is_unfit-clause-change : goal.returns-then-is_unfit-clause-change
returns-then-is_unfit-clause-change c = search (rules, reportWays)

pub attempted-place-requires : goal.attempted-place-requires
attempted-place-requires c = search (rules, reportWays)

pub returns-clause-change : goal.returns-clause-change
returns-clause-change c = search (rules, reportWays)
