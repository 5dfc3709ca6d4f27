-- `nbr_calls::report::report` meets its contract. Assumes nothing.
use Rattle.nbr_table_spec.proofs.StoreLaws.{report_refused, reportWays}
use Rattle.std.proofs.lemmas.Result.{err_from_is_err_and}
use borrow.Author.Rules.{rules}
use Rattle.nbr_calls.proofs.report.report.Goals as goal

pub returns-in_err-after : goal.returns-in_err-after
returns-in_err-after c = let p = err_from_is_err_and c.from_residual.result c.from_residual.ensures.1 in rw (p.1, p.2) (search (rules, reportWays))

pub returns-in_err-at : goal.returns-in_err-at
returns-in_err-at c =
    let p = err_from_is_err_and c.from_residual-in_err-at.result c.from_residual-in_err-at.ensures.1 in
    rw (p.1, p.2) (report_refused c.args.table c.in_ok-after.after c.in_ok-after.ensures.ok (search (rules, reportWays)) c.args.id _ c.args.attempts c.args.acked c.in_err-at.ensures.change)

pub returns : goal.returns
returns c = search (rules, reportWays)
