-- `c_interface::table::tesolvagna_table_evaluate` meets its contract. Assumes nothing.
use Rattle.c_table_spec.proofs.CallForms.{callWays}
use borrow.Author.Rules.{rules}
use Rattle.c_interface.proofs.table.tesolvagna_table_evaluate.Goals as goal

pub returns-then-is_refused : goal.returns-then-is_refused
returns-then-is_refused c = search (rules, callWays)

pub returns : goal.returns
returns c = search (rules, callWays)
