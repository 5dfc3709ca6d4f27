-- `nbr_table_spec::empty` meets its contract. Assumes nothing.
use Rattle.nbr_table_spec.proofs.CallLaws.{emptyWays}
use borrow.Author.Rules.{rules}
use Rattle.nbr_table_spec.proofs.empty.Goals as goal

pub returns : goal.returns
returns c = search (rules, emptyWays)
