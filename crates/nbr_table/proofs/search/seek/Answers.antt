-- `nbr_table::search::seek` meets its contract. Assumes nothing.
use Rattle.nbr_table_spec.proofs.PlaceLaws.{searchWays}
use borrow.Author.Rules.{rules}
use Rattle.nbr_table.proofs.search.seek.Goals as goal

pub returns : goal.returns
returns c = record { found = search (rules, searchWays); own = search (rules, searchWays); free = search (rules, searchWays) }
