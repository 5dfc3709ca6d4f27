-- `nbr_calls::advertise::advertising` meets its contract. Assumes nothing.
use Rattle.nbr_table_spec.proofs.StoreLaws.{advertiseWays}
use Rattle.std.proofs.lemmas.Result.{err_from_is_err_and}
use borrow.Author.Rules.{rules}
use Rattle.nbr_calls.proofs.advertise.advertising.Goals as goal

pub returns-in-Some-clause-change : goal.returns-in-Some-clause-change
returns-in-Some-clause-change c = search (rules, advertiseWays)

pub returns-in_err-at-clause-change : goal.returns-in_err-at-clause-change
returns-in_err-at-clause-change c = let p = err_from_is_err_and c.from_residual.result c.from_residual.ensures.1 in rw (p.1, p.2) (search (rules, advertiseWays))

pub returns-clause-change : goal.returns-clause-change
returns-clause-change c = search (rules, advertiseWays)
