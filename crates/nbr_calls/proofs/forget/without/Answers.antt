-- `nbr_calls::forget::without` meets its contract. Assumes nothing.
use Rattle.std.proofs.Common.{rules, tests}
use Rattle.nbr_table_spec.proofs.CallLaws.{without_is}
use Rattle.nbr_calls.proofs.forget.without.Goals as goal

pub returns : goal.returns
returns c = without_is c.args.parent c.args.id c.filter.result c.filter.ensures (λ x b k. search (rules, tests))
