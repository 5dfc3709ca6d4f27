-- `nbr_calls::forget::forgetting` meets its contract. Assumes nothing.
use Rattle.nbr_table_spec.proofs.StoreLaws.{forgetWays}
use Rattle.std.proofs.lemmas.Result.{err_from_is_err_and}
use borrow.Author.Rules.{rules}
use Rattle.nbr_calls.proofs.forget.forgetting.Goals as goal

pub returns-in_err-at-clause-change : goal.returns-in_err-at-clause-change
returns-in_err-at-clause-change c = let p = err_from_is_err_and c.from_residual.result c.from_residual.ensures.1 in rw (p.1, p.2) (search (rules, forgetWays))

pub returns-clause-change : goal.returns-clause-change
returns-clause-change c = search (rules, forgetWays)
