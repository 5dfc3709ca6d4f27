-- `c_interface::table::tesolvagna_table_advertise` meets its contract. Assumes nothing.
use Rattle.c_table_spec.proofs.CallForms.{callWays}
use borrow.Author.Rules.{rules}
use Rattle.c_interface.proofs.table.tesolvagna_table_advertise.Goals as goal

pub returns : goal.returns
returns c = search (rules, callWays)
