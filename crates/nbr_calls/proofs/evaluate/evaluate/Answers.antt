-- `nbr_calls::evaluate::evaluate` meets its contract. Assumes nothing.
use Rattle.nbr_table_spec.proofs.OfferLaws.{evaluateWays}
use Rattle.std.proofs.lemmas.Result.{err_from_is_err_and}
use borrow.Author.Rules.{rules}
use Rattle.nbr_calls.proofs.evaluate.evaluate.Goals as goal

pub returns-in_err-after : goal.returns-in_err-after
returns-in_err-after c = let p = err_from_is_err_and c.from_residual.result c.from_residual.ensures.1 in rw (p.1, p.2) (search (rules, evaluateWays))

pub returns : goal.returns
returns c = search (rules, evaluateWays)
